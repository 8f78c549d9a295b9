use Rattle.std.proofs.Common.{take, ap, ◌∙◌, arith, length-take}
use Rattle.timetable.specs.Table.{most_hops}
use Rattle.journeys.specs.Scan.{no_hop}
use Rattle.planner.specs.Limits.{hop_within}
use Rattle.planner.proofs.FirstBad.{goes_on, fails, ends, hop_counted, hop_read, hop_missed}
use Rattle.planner.proofs.limits.first_bad_hop.Goals as goal

pub loop-place-preserved-in_default : goal.loop-place-preserved-in_default
loop-place-preserved-in_default g c = absurd (hop_missed (g.T.Timetable.hops c.args.timetable.now) c.loop-place.place c.count-count.result c.count-count.ensures c.loop-place-test.true c.hop.result c.hop.ensures c.in_default.is)

pub returns-then-not-is_within : goal.returns-then-not-is_within
returns-then-not-is_within g c =
    let hs = g.T.Timetable.hops c.args.timetable.now in
    let e = hop_read hs c.loop-place.place c.count-count.result c.count-count.ensures c.loop-place-test.true c.in-Some.hop c.hop.result c.hop.ensures c.in-Some.is in
    fails (hop_within c.args.stops) (take most_hops hs) c.loop-place.place c.loop-place.invariant no_hop (hop_counted hs c.loop-place.place c.count-count.result c.count-count.ensures c.loop-place-test.true) (c.if-not-is_within.ensures ∙ ap (hop_within c.args.stops) e)

pub loop-place-preserved : goal.loop-place-preserved
loop-place-preserved g c =
    let hs = g.T.Timetable.hops c.args.timetable.now in
    let e = hop_read hs c.loop-place.place c.count-count.result c.count-count.ensures c.loop-place-test.true c.in-Some.hop c.hop.result c.hop.ensures c.in-Some.is in
    goes_on (hop_within c.args.stops) (take most_hops hs) c.loop-place.place c.loop-place.invariant no_hop (hop_counted hs c.loop-place.place c.count-count.result c.count-count.ensures c.loop-place-test.true) (c.if-not-is_within.ensures ∙ ap (hop_within c.args.stops) e)

pub returns : goal.returns
returns g c =
    let hs = g.T.Timetable.hops c.args.timetable.now in
    ends (hop_within c.args.stops) (take most_hops hs) c.loop-place.place c.loop-place.invariant (omega (arith, length-take most_hops hs, c.count-count.ensures, c.loop-place-test.false))
