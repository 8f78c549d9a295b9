use Rattle.std.proofs.Common.{◌∙◌, arith}
use Rattle.retrace.specs.Steps.{place_of}
use Rattle.retrace.specs.Travels.{course_setup}
use Rattle.retrace.proofs.Riding.{walk_written}
use Rattle.retrace.proofs.course.Course.go.Goals as goal

pub returns-in-Walk-clause-steps : goal.returns-in-Walk-clause-steps
returns-in-Walk-clause-steps g c =
    c.write.ensures ∙ walk_written (course_setup g.T.Timetable.hops g.F.Fare.model c.args.self.now) (place_of c.args.at.now) c.args.leg.now c.args.used c.args.steps.now c.walk-step.result c.in-Walk.is c.walk-step.ensures.step (omega (arith, c.requires.room))
