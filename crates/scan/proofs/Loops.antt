-- The places of a list that is written from the front, and a fold's next element. Assumes nothing.
use Rattle.std.proofs.Common.{◌≡◌, ℕ, zero, suc, ◌+◌, ◌<◌, ◌≤◌, List, [], ◌∷◌, ◌++◌, length, get_or, take, drop, set, sym, refl, ap, ◌∙◌, le_of_suc-le-suc, not-suc-le-zero, arith, length-take}
use Rattle.std.proofs.Math.Seq.{take-append_seam}
use Rattle.std.proofs.lemmas.List.{take_more}
use Rattle.std.proofs.lemmas.Slice.{drop-append-drop}
use Rattle.journeys.specs.Lists.{foldi}
use Rattle.journeys.specs.Runs.{overlay}

module _ {A B : Type 0} (f : ℕ → A → B → B) where
  foldi_push : (i : ℕ) (xs : List A) (x : A) (b : B) → foldi f i (xs ++ (x ∷ [])) b ≡ f (i + length xs) x (foldi f i xs b)
  foldi_push i [] x b = ap (λ (n : ℕ). f n x b) (let z : i ≡ i + 0 = omega arith in z)
  foldi_push i (y ∷ xs) x b = foldi_push (suc i) xs x (f i y b) ∙ ap (λ (n : ℕ). f n x (foldi f (suc i) xs (f i y b))) (let z : suc i + length xs ≡ i + suc (length xs) = omega arith in z)

  -- a loop's step
  pub foldi_more : (xs : List A) (i : ℕ) (x : A) (b : B) → i < length xs → x ≡ get_or xs i x → foldi f 0 (take (i + 1) xs) b ≡ f i x (foldi f 0 (take i xs) b)
  foldi_more xs i x b h r =
      ap (λ (l : List A). foldi f 0 l b) (take_more xs i x h) ∙ foldi_push 0 (take i xs) (get_or xs i x) b
      ∙ (λ v. f ((let z : 0 + length (take i xs) ≡ i = omega (arith, length-take i xs) in z) v) (sym r v) (foldi f 0 (take i xs) b))

module _ {A : Type 0} where
  pub overlay_next : (xs : List A) (n : ℕ) (x : A) → n < length xs → set xs n x ≡ overlay (take n xs ++ (x ∷ [])) xs
  overlay_next [] n x h = absurd (not-suc-le-zero h)
  overlay_next (y ∷ xs) zero x h = refl
  overlay_next (y ∷ xs) (suc n) x h = ap {B = List A} (λ (l : List A). y ∷ l) (overlay_next xs n x (le_of_suc-le-suc h))

  -- what was written over and written over again
  pub overlay_overlay : (xs ys old : List A) → length xs ≤ length ys → overlay ys (overlay xs old) ≡ overlay ys old
  overlay_overlay xs ys old h = ap (λ (l : List A). ys ++ l) (drop-append-drop (length xs) old xs (length ys) h refl)

  pub take_overlay : (xs old : List A) (n : ℕ) → n ≡ length xs → take n (overlay xs old) ≡ xs
  take_overlay xs old n e = ap (λ (k : ℕ). take k (overlay xs old)) e ∙ take-append_seam xs (drop (length xs) old)
