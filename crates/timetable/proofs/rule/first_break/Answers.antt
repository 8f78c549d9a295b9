use Rattle.timetable.proofs.Breaks.{breaks, ends}
use Rattle.timetable.proofs.Opens.{searched}
use Rattle.timetable.proofs.rule.first_break.Goals as goal

pub returns-then-not-may_follow : goal.returns-then-not-may_follow
returns-then-not-may_follow c =
    let hops = c.args.hops.now in
    let e = breaks hops c.loop-place.before c.loop-place.place c.loop-place.invariant _ c.loop-place-test.true c.if-not-may_follow.ensures in
    record { place = e; rule = searched hops _ e }

pub returns : goal.returns
returns c =
    let hops = c.args.hops.now in
    let e = ends hops c.loop-place.before c.loop-place.place c.loop-place.invariant c.loop-place-test.false in
    record { place = e; rule = searched hops _ e }
