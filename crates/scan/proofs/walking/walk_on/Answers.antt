use Rattle.std.proofs.Common.{◌<◌, length, sym, subst}
use Rattle.scan.specs.Chains.{slot}
use Rattle.scan.proofs.PathTables.{path_from}
use Rattle.scan.proofs.Walkers.{Walking, none_walked, one_walked}
use Rattle.scan.proofs.Walks.{remaining, nearer}
use Rattle.scan.proofs.walking.walk_on.Goals as goal

pub loop-at-init : goal.loop-at-init
loop-at-init g c =
    let start = c.args.labels.now in
    let ps = c.args.paths.now.paths.now in
    let f = g.F.Fare.model c.args.fare.now in
    subst (Walking f c.args.from c.args.label.now start start ps) (sym c.first_at-at.ensures) (none_walked f c.args.from c.args.label.now start ps c.requires.chained)

pub path-requires : goal.path-requires
path-requires g c =
    let at = subst (Walking (g.F.Fare.model c.args.fare.now) c.args.from c.args.label.now c.args.labels.now c.loop-at.labels c.args.paths.now.paths.now) c.in-Some.is c.loop-at.invariant in
    record { inside = at.inside.1 }

pub loop-at-smaller : goal.loop-at-smaller
loop-at-smaller g c =
    let ps = c.args.paths.now.paths.now in
    let x = c.path.result.now in
    let at = subst (Walking (g.F.Fare.model c.args.fare.now) c.args.from c.args.label.now c.args.labels.now c.loop-at.labels ps) c.in-Some.is c.loop-at.invariant in
    subst (λ o. remaining (length ps) c.next-at.result < remaining (length ps) o) (sym c.in-Some.is)
    (nearer path_from (slot c.args.label.now.stop) ps c.in-Some.place (slot x.from) at.inside.1 c.next-at.result (c.next-at.ensures.next x c.path.ensures.here))

pub loop-at-preserved : goal.loop-at-preserved
loop-at-preserved g c =
    let f = g.F.Fare.model c.args.fare.now in
    let ps = c.args.paths.now.paths.now in
    let x = c.path.result.now in
    let at = subst (Walking f c.args.from c.args.label.now c.args.labels.now c.loop-at.labels ps) c.in-Some.is c.loop-at.invariant in
    one_walked f c.args.from c.args.label.now c.args.labels.now c.loop-at.labels c.walk.new.labels ps c.in-Some.place x c.next-at.result at c.path.ensures.here c.in_ok-walk.ensures.run c.walk.ensures.extended (c.next-at.ensures.next x c.path.ensures.here)
