use Rattle.std.proofs.Common.{set, sym, ap, ◌∙◌}
use Rattle.std.proofs.lemmas.List.Edits.{map_over_more}
use Rattle.scan.proofs.filled.Filled.change_each.Goals as goal

pub loop-place-preserved : goal.loop-place-preserved
loop-place-preserved g c = λ r h.
    ap (set c.loop-place.place-items c.loop-place.place-index) (h _ _ c.change.ensures ∙ ap r (sym c.place-item.is))
    ∙ map_over_more r _ c.loop-place.place-items c.loop-place.place-index c.place-item.result c.loop-place-test.true (c.loop-place.invariant r h) c.place-item.is
