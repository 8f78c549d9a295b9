use Rattle.std.proofs.Common.{◌≡◌, ◌^◌, ◌<◌, true, false, sym, ◌∙◌, arith}
use Rattle.rule_table.specs.Masks.{mask_of}
use Rattle.rule_table.specs.MaskBits.{mask_start, mask_more, mask_done, mask_lt, or_bit}
use Rattle.rule_table.proofs.masks.mask_of.Goals.{then-test, else-test}
use Rattle.rule_table.proofs.masks.mask_of.Goals as goal

pub loop-n-init : goal.loop-n-init
loop-n-init g c = λ p says. mask_start p

pub loop-n-preserved : goal.loop-n-preserved
loop-n-preserved g c = λ p says.
    let n = c.loop-n.n in
    let mask = c.loop-n.mask in
    let so_far : mask ≡ mask_of p n = c.loop-n.invariant p says in
    let below : mask < 2 ^ n = omega (arith, mask_lt p n) in
    let here : c.test.result ≡ p n = says n c.test.result c.test.ensures in
    elim c.if-test.branch [
      | then-test w ↦ mask_more p n mask c.if-test.mask true so_far (sym w.if-test.true ∙ here) (w.mask-is ∙ or_bit mask n c.loop-n-test.true below)
      | else-test w ↦ mask_more p n mask c.if-test.mask false so_far (sym w.if-test.false ∙ here) (w.mask-is ∙ omega arith)
    ]

pub returns : goal.returns
returns g c = λ p says. mask_done p c.loop-n.n c.loop-n.mask c.loop-n.auto.n-end c.loop-n-test.false (c.loop-n.invariant p says)
