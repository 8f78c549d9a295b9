use Rattle.std.proofs.Common.{◌≡◌, ℕ, ◌-◌, ◌+◌, refl, sym, subst, ◌∙◌, ⊎_elim, arith, get_or, set, length-set, get_or-set_other, get_or-set_same}
use Rattle.std.proofs.lemmas.Bool.{cases_eq}
use Rattle.rule_table.specs.Masks.{mask_of, MaskRowsFrom}
use Rattle.rule_table.proofs.masks.masks_of.Goals as goal

pub loop-k-init : goal.loop-k-init
loop-k-init g c = (refl, λ p says j ge lt. absurd (omega arith))

pub loop-k-preserved : goal.loop-k-preserved
loop-k-preserved g c =
    let k = c.loop-k.k - 1 in
    let masks = c.loop-k.masks in
    let to = c.set.result in (
      length-set masks k to ∙ c.loop-k.invariant.0,
      λ p says j ge lt.
          let above : MaskRowsFrom (k + 1) p masks = λ i a b. c.loop-k.invariant.1 p says i (omega arith) b in
          let here : to ≡ mask_of (p k) 32 = says _ k to (omega arith) above c.set.ensures in
          ⊎_elim {C = get_or (set masks k to) j 0 ≡ mask_of (p j) 32}
          (λ e. subst (λ (x : ℕ). get_or (set masks k to) x 0 ≡ mask_of (p x) 32) (sym e) (get_or-set_same masks k to 0 (omega (arith, c.loop-k.invariant.0)) ∙ here))
          (λ ne. get_or-set_other masks k j to 0 ne ∙ c.loop-k.invariant.1 p says j (omega arith) lt) (cases_eq j k),
    )

pub returns : goal.returns
returns g c = λ p says k lt. c.loop-k.invariant.1 p says k (omega arith) lt
