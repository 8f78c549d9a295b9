use Rattle.std.proofs.Common.{◌<◌, rules, Ok, arith}
use Rattle.journeys.specs.Scan.{passed}
use Rattle.scan.specs.Stages.{stage_of, room_for}
use Rattle.scan.proofs.Rounds.{none_from, passed_from}
use Rattle.scan.proofs.Stages.{hop_missed, passes_on, passing_ends}
use Rattle.scan.proofs.ride.Ride.pass_hops.Goals as goal

pub loop-place-preserved-in_default : goal.loop-place-preserved-in_default
loop-place-preserved-in_default g c =
    let hops = g.T.Timetable.hops c.args.given.now.timetable.now in
    let h : c.loop-place.place < passed hops c.args.round = omega arith in
    absurd (hop_missed (g.F.Fare.model c.args.given.now.fare.now) hops c.args.round c.loop-place.place h c.in_default.ensures)

pub loop-place-preserved : goal.loop-place-preserved
loop-place-preserved g c =
    let hops = g.T.Timetable.hops c.args.given.now.timetable.now in
    let h : c.loop-place.place < passed hops c.args.round = omega arith in (
      passes_on (g.F.Fare.model c.args.given.now.fare.now) hops c.args.round c.args.self.now c.loop-place.self c.pass_hop.new.self c.loop-place.place c.in-Some.hop h c.in-Some.ensures c.loop-place.invariant.0 c.in_ok-pass_hop.ensures.run c.pass_hop.ensures.carried,
      passed_from (g.F.Fare.model c.args.given.now.fare.now) c.len-begins.result c.args.round c.loop-place.place c.in-Some.hop (room_for c.loop-place.self) (stage_of c.loop-place.self) (stage_of c.pass_hop.new.self) (Ok tt) c.in_ok-pass_hop.ensures.run c.loop-place.invariant.1,
    )

pub returns-in_err-pass_hop-clause-run : goal.returns-in_err-pass_hop-clause-run
returns-in_err-pass_hop-clause-run g c =
    let hops = g.T.Timetable.hops c.args.given.now.timetable.now in
    let h : c.loop-place.place < passed hops c.args.round = omega arith in
    passing_ends (g.F.Fare.model c.args.given.now.fare.now) hops c.args.round c.args.self.now c.loop-place.self c.pass_hop.new.self c.loop-place.place c.in-Some.hop c.in_err-pass_hop.field-0.0 c.from_residual.result h c.in-Some.ensures c.loop-place.invariant.0 c.in_err-pass_hop.ensures.run (search rules)
