use Rattle.std.proofs.Common.{arith}
use Rattle.retrace.specs.Steps.{place_of}
use Rattle.retrace.specs.Travels.{course_setup}
use Rattle.retrace.proofs.Hops.{place_small, runs_more, ride_leads_on}
use Rattle.retrace.proofs.course.Course.check_hops.Goals as goal

pub overflow_add-place-end : goal.overflow_add-place-end
overflow_add-place-end g c = omega (arith, place_small (g.T.Timetable.hops c.args.self.now.timetable.now) c.args.leg.now.last c.requires.is)

pub loop-place-preserved : goal.loop-place-preserved
loop-place-preserved g c =
    runs_more (course_setup g.T.Timetable.hops g.F.Fare.model c.args.self.now) c.args.leg.now.first c.loop-place.place c.hop-hop.result c.hop-trip.result c.loop-place.invariant c.hop-hop.ensures c.hop-trip.ensures c.if-not-hop.false c.if-hop-trip.false

pub returns : goal.returns
returns g c =
    ride_leads_on (course_setup g.T.Timetable.hops g.F.Fare.model c.args.self.now) (place_of c.args.at.now) c.args.leg.now c.loop-place.place c.requires c.loop-place.invariant (omega arith)
