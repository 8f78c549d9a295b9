use Rattle.std.proofs.Common.{◌≡◌, ◌+◌, Bool, ℕ, List, get_or, refl, sym, ap, ◌∙◌, subst, arith}
use Rattle.std.proofs.lemmas.Fn.{says_at}
use Rattle.std.proofs.lemmas.List.Filters.{FiltersInPlace, FiltersInPlace-more_no, FiltersInPlace-more_set}
use Rattle.short_list.proofs.list.ShortList.retain.Goals.{then-keep, else-keep}
use Rattle.short_list.proofs.list.ShortList.retain.Goals as goal

moved : {X : Type 0} (test : X → Bool) (xs ys zs : List X) (k m i : ℕ) → zs ≡ ys → m ≡ k → FiltersInPlace test xs ys k i → FiltersInPlace test xs zs m i
moved test xs ys zs k m i e f s = subst (λ y. FiltersInPlace test xs y m i) (sym e) (subst (λ n. FiltersInPlace test xs ys n i) (sym f) s)

pub loop-place-preserved : goal.loop-place-preserved
loop-place-preserved g c =
    let i = c.loop-place.place in
    let k = c.loop-place.kept in
    let x = c.index-self-place.result in
    let xs = c.args.self.now.places in
    let ys = c.loop-place.self.places in
    let y = get_or ys i x in
    let is : y ≡ get_or ys i y = ap (λ d. get_or ys i d) c.index-self-place.is in
    let so_far = c.loop-place.invariant.2 in
    elim c.if-keep.branch [
      | then-keep w ↦ (
        omega (arith, w.kept-is, c.loop-place.invariant.0),
        ap (λ s. s.used) w.self-is ∙ c.loop-place.invariant.1,
        λ test says.
            let passes = sym (says y c.keep.result (says_at g.F.Fn c.keep.ensures refl)) ∙ w.if-keep.true in
            moved test xs _ c.if-keep.self.places (k + 1) c.if-keep.kept (i + 1) (ap (λ s. s.places) w.self-is) w.kept-is
            (FiltersInPlace-more_set (so_far test says) (omega arith) passes is),
      )
      | else-keep w ↦ (
        omega (arith, w.kept-is, c.loop-place.invariant.0),
        ap (λ s. s.used) w.self-is ∙ c.loop-place.invariant.1,
        λ test says.
            let fails = sym (says y c.keep.result (says_at g.F.Fn c.keep.ensures refl)) ∙ w.if-keep.false in
            moved test xs ys c.if-keep.self.places k c.if-keep.kept (i + 1) (ap (λ s. s.places) w.self-is) w.kept-is
            (FiltersInPlace-more_no (so_far test says) (omega arith) fails is),
      )
    ]
