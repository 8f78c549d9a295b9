use Rattle.std.proofs.Common.{◌<◌, ◌==◌, length, drop, sym, subst, ◌∙◌, arith}
use Rattle.scan.specs.Chains.{slot}
use Rattle.scan.specs.Filling.{filled}
use Rattle.scan.specs.Stores.{labels_of}
use Rattle.scan.proofs.Boarders.{Boarding, none_yet, boards_on}
use Rattle.scan.proofs.Chains.{stop_of}
use Rattle.scan.proofs.Rounds.{later_all, none_boards_from}
use Rattle.scan.proofs.Walks.{remaining, nearer}
use Rattle.scan.proofs.boarding.board_all.Goals as goal

pub loop-at-init : goal.loop-at-init
loop-at-init g c =
    let f = g.F.Fare.model c.args.fare.now in
    let t = c.args.turn.now in
    let ls = labels_of c.args.labels.now in
    subst (Boarding f t.round t.place t.hop c.args.aboard.now c.args.aboard.now ls) (sym c.first_at-at.ensures) (none_yet f t.round t.place t.hop c.args.aboard.now ls)

pub loop-at-smaller : goal.loop-at-smaller
loop-at-smaller g c =
    let t = c.args.turn.now in
    let ls = labels_of c.args.labels.now in
    let x = c.label-stored.result.now in
    let at = subst (Boarding (g.F.Fare.model c.args.fare.now) t.round t.place t.hop c.args.aboard.now c.loop-at.aboard ls) c.in-Some.is c.loop-at.invariant in
    subst (λ o. remaining (length ls) c.place-at.result < remaining (length ls) o) (sym c.in-Some.is)
    (nearer stop_of (slot t.hop.from) ls c.in-Some.place (slot x.label.stop) at.inside.1 c.place-at.result (c.place-at.ensures ∙ c.label-stored.ensures.next))

pub loop-at-preserved : goal.loop-at-preserved
loop-at-preserved g c =
    let f = g.F.Fare.model c.args.fare.now in
    let t = c.args.turn.now in
    let ls = labels_of c.args.labels.now in
    let x = c.label-stored.result.now in
    let at = subst (Boarding f t.round t.place t.hop c.args.aboard.now c.loop-at.aboard ls) c.in-Some.is c.loop-at.invariant in
    boards_on f t.round t.place t.hop c.args.aboard.now c.loop-at.aboard c.board.new.aboard ls c.in-Some.place x.label c.place-at.result at c.label-stored.ensures.here c.in_ok-board.ensures.run c.board.ensures.kept (c.place-at.ensures ∙ c.label-stored.ensures.next)

pub returns-then-place-turn-clause-run : goal.returns-then-place-turn-clause-run
returns-then-place-turn-clause-run g c =
    let f = g.F.Fare.model c.args.fare.now in
    let t = c.args.turn.now in
    let ls = labels_of c.args.labels.now in
    let at = subst (Boarding f t.round t.place t.hop c.args.aboard.now c.loop-at.aboard ls) c.in-Some.is c.loop-at.invariant in
    at.rest
    ∙ none_boards_from f t.begins t.round t.place t.hop (length c.args.aboard.now.places.now) c.in-Some.place (drop c.in-Some.place ls) (filled c.loop-at.aboard)
    (later_all (λ l. l.rides == t.round) t.begins c.in-Some.place ls c.if-place-turn.true c.requires.begins)
