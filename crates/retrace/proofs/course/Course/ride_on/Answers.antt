use Rattle.std.proofs.Common.{rules}
use Rattle.retrace.specs.Travels.{course_setup}
use Rattle.retrace.proofs.Riding.{hop_shown}
use Rattle.retrace.proofs.course.Course.ride_on.Goals as goal

pub returns-clause-step : goal.returns-clause-step
returns-clause-step g c =
    hop_shown (course_setup g.T.Timetable.hops g.F.Fare.model c.args.self.now) c.args.hop c.args.aboard.now c.hop-ridden.result c.ride-state.result c.into.result c.price.result c.hop-ridden.ensures c.ride-state.ensures (search rules) c.price.ensures
