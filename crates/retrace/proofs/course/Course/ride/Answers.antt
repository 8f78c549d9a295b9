use Rattle.std.proofs.Common.{arith}
use Rattle.retrace.specs.Travels.{course_setup}
use Rattle.retrace.proofs.Riding.{ridden_none, ridden_next, ridden_all}
use Rattle.retrace.proofs.course.Course.ride.Goals as goal

pub loop-ridden-init : goal.loop-ridden-init
loop-ridden-init g c =
    ridden_none (course_setup g.T.Timetable.hops g.F.Fare.model c.args.self.now) c.args.at.now c.args.leg.now.first c.args.used c.args.steps.now c.board-step.result c.board-step.ensures

pub loop-ridden-preserved : goal.loop-ridden-preserved
loop-ridden-preserved g c =
    ridden_next (course_setup g.T.Timetable.hops g.F.Fare.model c.args.self.now) c.args.at.now c.args.leg.now.first c.args.used c.args.steps.now c.loop-ridden.steps c.ride_on-step.new.steps c.loop-ridden.step c.ride_on-step.result c.loop-ridden.ridden c.loop-ridden.invariant c.ride_on-step.ensures.step c.ride_on-step.ensures.in_time c.ride_on-step.ensures.steps c.loop-ridden.auto.steps (omega (arith, c.requires.room))

pub returns : goal.returns
returns g c =
    let all = ridden_all (course_setup g.T.Timetable.hops g.F.Fare.model c.args.self.now) c.args.at.now c.args.leg.now.first c.args.used c.args.steps.now c.loop-ridden.steps c.loop-ridden.step c.args.leg.now.last c.loop-ridden.ridden c.requires.follows.forth (omega arith) c.loop-ridden.invariant in
    record { step = all.0; in_time = all.1; steps = all.2 }
