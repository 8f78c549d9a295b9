-- The legs of the labels of a store that grows. Assumes nothing.
use Rattle.std.proofs.Common.{◌≡◌, ℕ, zero, suc, ◌+◌, ◌<◌, List, [], ◌∷◌, ◌++◌, length, get_or, refl, ap, ◌∙◌, arith, length-append}
use lib.ListN.{get_or-append}
use Rattle.journeys.specs.declared.label.Label.{Label}
use Rattle.journeys.specs.Journey.{Leg}
use Rattle.journeys.specs.Journey.{Setup, Place, after, end, LegOk, LegsOk}
use Rattle.journeys.specs.Traces.{legs_by, traces_from, traces, legs_of}

get_or_last : (acc : List (List Leg)) (x : List Leg) (n : ℕ) → n ≡ length acc → get_or (acc ++ (x ∷ [])) n [] ≡ x
get_or_last [] x zero h = refl
get_or_last [] x (suc n) h = absurd (omega arith)
get_or_last (y ∷ acc) x zero h = absurd (omega arith)
get_or_last (y ∷ acc) x (suc n) h = get_or_last acc x n (omega arith)

module _ {S : Type 0} where
  traces_append : (acc : List (List Leg)) (xs ys : List (Label S)) → traces_from acc (xs ++ ys) ≡ traces_from (traces_from acc xs) ys
  traces_append acc [] ys = refl
  traces_append acc (x ∷ xs) ys = traces_append (acc ++ (legs_by x.way acc ∷ [])) xs ys

  traces_length : (acc : List (List Leg)) (xs : List (Label S)) → length (traces_from acc xs) ≡ length acc + length xs
  traces_length acc [] = omega arith
  traces_length acc (x ∷ xs) = traces_length (acc ++ (legs_by x.way acc ∷ [])) xs ∙ simp length-append (omega arith)

  -- the legs so far stay
  traces_stay : (acc : List (List Leg)) (xs : List (Label S)) (j : ℕ) → j < length acc → get_or (traces_from acc xs) j [] ≡ get_or acc j []
  traces_stay acc [] j h = refl
  traces_stay acc (x ∷ xs) j h = traces_stay (acc ++ (legs_by x.way acc ∷ [])) xs j (simp length-append (omega arith)) ∙ get_or-append acc (legs_by x.way acc ∷ []) [] j h

  pub legs_stay : (st more : List (Label S)) (j : ℕ) → j < length st → legs_of (st ++ more) j ≡ legs_of st j
  legs_stay st more j h = ap (λ (t : List (List Leg)). get_or t j []) (traces_append [] st more) ∙ traces_stay (traces st) more j (omega (arith, traces_length [] st))

  pub legs_push : (st : List (Label S)) (c : Label S) → legs_of (st ++ (c ∷ [])) (length st) ≡ legs_by c.way (traces st)
  legs_push st c = ap (λ (t : List (List Leg)). get_or t (length st) []) (traces_append [] st (c ∷ [])) ∙ get_or_last (traces st) (legs_by c.way (traces st)) (length st) (omega (arith, traces_length [] st))

  pub end_push : (w : Setup S) (p : Place S) (ls : List Leg) (g : Leg) → end w p (ls ++ (g ∷ [])) ≡ after w (end w p ls) g
  end_push w p [] g = refl
  end_push w p (l ∷ ls) g = end_push w (after w p l) ls g

  pub ok_push : (w : Setup S) (p : Place S) (ls : List Leg) (g : Leg) → LegsOk w p ls → LegOk w (end w p ls) g → LegsOk w p (ls ++ (g ∷ []))
  ok_push w p [] g o k = (k, tt)
  ok_push w p (l ∷ ls) g o k = (o.0, ok_push w (after w p l) ls g o.1 k)
