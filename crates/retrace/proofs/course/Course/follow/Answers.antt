use Rattle.std.proofs.Common.{refl, get_or, arith}
use Rattle.journeys.specs.declared.leg.Leg.{Leg}
use Rattle.journeys.specs.declared.leg.LegKind.TheVariants.{Walk}
use Rattle.retrace.specs.Travels.{course_setup}
use Rattle.retrace.proofs.Following.{strays, overflows, so_far_next, is_journey}
use Rattle.retrace.proofs.course.Course.follow.Goals as goal

abbrev no_leg : Leg
no_leg = record { row = 0; kind = Walk; first = 0; last = 0 }

pub returns-in-Err : goal.returns-in-Err
returns-in-Err g c =
    strays (course_setup g.T.Timetable.hops g.F.Fare.model c.args.self.now) c.args.legs.now c.args.steps.now c.loop-place.steps c.loop-place.at c.loop-place.used c.loop-place.place c.loop-place.invariant (get_or c.args.legs.now c.loop-place.place no_leg) no_leg c.loop-place-test.true refl c.in-Err.why c.in-Err.ensures

pub returns-then-steps-used : goal.returns-then-steps-used
returns-then-steps-used g c =
    overflows (course_setup g.T.Timetable.hops g.F.Fare.model c.args.self.now) c.args.legs.now c.args.steps.now c.loop-place.steps c.loop-place.at c.loop-place.used c.loop-place.place c.loop-place.invariant (get_or c.args.legs.now c.loop-place.place no_leg) no_leg c.loop-place-test.true refl (c.in_default.ensures {u = tt}) c.loop-place.auto.steps c.if-steps-used.true

pub loop-place-preserved : goal.loop-place-preserved
loop-place-preserved g c =
    so_far_next (course_setup g.T.Timetable.hops g.F.Fare.model c.args.self.now) c.args.legs.now c.args.steps.now c.loop-place.steps c.loop-place.at c.loop-place.used c.loop-place.place c.loop-place.invariant (get_or c.args.legs.now c.loop-place.place no_leg) no_leg c.loop-place-test.true refl (c.in_default.ensures {u = tt}) c.go-at.result c.go-at.new.steps c.go-at.ensures.step c.go-at.ensures.in_time c.go-at.ensures.steps (omega (arith, c.loop-place.auto.steps, c.if-steps-used.false))

pub returns : goal.returns
returns g c =
    is_journey (course_setup g.T.Timetable.hops g.F.Fare.model c.args.self.now) c.args.legs.now c.args.steps.now c.loop-place.steps c.loop-place.at c.loop-place.used c.loop-place.place c.loop-place.invariant c.loop-place-test.false
