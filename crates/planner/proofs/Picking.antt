-- The best offers, picked one by one: prices fall, so that no number of them is too small to begin with.
use Rattle.std.proofs.Common.{◌≡◌, ℕ, zero, suc, ◌+◌, ◌<◌, ◌≤◌, List, [], ◌∷◌, ◌++◌, length, take, drop, Some, None, Option, sym, refl, ap, ◌∙◌, subst, inl, inr, add-one, arith, length-append, length-take}
use Rattle.std.specs.Prelude.{nat_lt, if◌then◌else◌}
use Rattle.std.proofs.lemmas.List.{take_all, take-append-le}
use Rattle.std.proofs.lemmas.Bool.{cond-true, cond-false, cases_lt, lt-ltb, le-ltb}
use Rattle.journeys.specs.declared.best_offer.BestOffer.{BestOffer}
use Rattle.journeys.specs.declared.label.Label.{Label}
use Rattle.journeys.specs.Fare.{FareModel}
use Rattle.journeys.specs.Selection.{pick, picks, and_cheaper, price_bound, best_offers}
use Rattle.journeys.proofs.Best.{If, OfStore, pick_in}

module _ {S : Type 0} (f : FareModel S) (dest : ℕ) (ls : List (Label S)) where
  pub pick_below : (bound : ℕ) (r : BestOffer) → pick f dest bound ls ≡ Some r → r.price < bound
  pick_below bound r e = (subst (If (OfStore f dest ls bound)) e (pick_in f dest bound ls)).0

  none_below : (n : ℕ) → picks f dest ls n 0 ≡ []
  unfolding picks
  none_below zero = refl
  none_below (suc n) = go (pick f dest 0 ls) (pick_in f dest 0 ls)
    where
      go : (o : Option BestOffer) → If (OfStore f dest ls 0) o → and_cheaper o (picks f dest ls n) ≡ []
      go None i = refl
      go (Some r) i = absurd (omega (arith, i.0))

  -- a larger number of offers makes no difference
  fuel : (n m bound : ℕ) → bound ≤ n → bound ≤ m → picks f dest ls n bound ≡ picks f dest ls m bound
  unfolding picks
  fuel zero m bound h k = let z : bound ≡ 0 = omega arith in ap (picks f dest ls 0) z ∙ sym (ap (picks f dest ls m) z ∙ none_below m)
  fuel (suc n) zero bound h k = let z : bound ≡ 0 = omega arith in ap (picks f dest ls (suc n)) z ∙ none_below (suc n)
  fuel (suc n) (suc m) bound h k = go (pick f dest bound ls) (pick_in f dest bound ls) (fuel n m)
    where
      go : (o : Option BestOffer) → If (OfStore f dest ls bound) o → ((b : ℕ) → b ≤ n → b ≤ m → picks f dest ls n b ≡ picks f dest ls m b) → and_cheaper o (picks f dest ls n) ≡ and_cheaper o (picks f dest ls m)
      go None i more = refl
      go (Some r) i more = ap (λ l. r ∷ l) (more r.price (omega (arith, i.0)) (omega (arith, i.0)))

  -- those that cost less than the bound
  unfoldable pub below : ℕ → List BestOffer
  below bound = picks f dest ls bound bound

  pub below_all : best_offers f dest ls ≡ below price_bound
  unfolding best_offers below
  below_all = refl

  pub pick_step : (bound : ℕ) (r : BestOffer) → pick f dest bound ls ≡ Some r → below bound ≡ r ∷ below r.price
  unfolding picks below
  pick_step zero r e = absurd (omega (arith, pick_below 0 r e))
  pick_step (suc n) r e = ap (λ o. and_cheaper o (picks f dest ls n)) e ∙ ap (λ l. r ∷ l) (fuel n r.price r.price (omega (arith, pick_below (suc n) r e)) (omega arith))

  pub pick_end : (bound : ℕ) → pick f dest bound ls ≡ None → below bound ≡ []
  unfolding picks below
  pick_end zero e = refl
  pick_end (suc n) e = ap (λ o. and_cheaper o (picks f dest ls n)) e

-- lists taken apart at a place
module _ {A : Type 0} where
  drop_next : (xs : List A) (n : ℕ) (x : A) (rest : List A) → drop n xs ≡ x ∷ rest → drop (suc n) xs ≡ rest
  drop_next [] zero x rest e = absurd (let z : ◌≡◌ {A = ℕ} 0 1 = cc in omega arith)
  drop_next [] (suc n) x rest e = absurd (let z : ◌≡◌ {A = ℕ} 0 1 = cc in omega arith)
  drop_next (y ∷ xs) zero x rest e = cc
  drop_next (y ∷ xs) (suc n) x rest e = drop_next xs n x rest e

  take_next : (xs : List A) (n : ℕ) (x : A) (rest : List A) → drop n xs ≡ x ∷ rest → take (suc n) xs ≡ take n xs ++ (x ∷ [])
  take_next [] zero x rest e = absurd (let z : ◌≡◌ {A = ℕ} 0 1 = cc in omega arith)
  take_next [] (suc n) x rest e = absurd (let z : ◌≡◌ {A = ℕ} 0 1 = cc in omega arith)
  take_next (y ∷ xs) zero x rest e = ap {B = List A} (λ z. z ∷ []) (let h : y ≡ x = cc in h)
  take_next (y ∷ xs) (suc n) x rest e = ap {B = List A} (λ l. y ∷ l) (take_next xs n x rest e)

  next_inside : (xs : List A) (n : ℕ) (x : A) (rest : List A) → drop n xs ≡ x ∷ rest → n < length xs
  next_inside [] zero x rest e = absurd (let z : ◌≡◌ {A = ℕ} 0 1 = cc in omega arith)
  next_inside [] (suc n) x rest e = absurd (let z : ◌≡◌ {A = ℕ} 0 1 = cc in omega arith)
  next_inside (y ∷ xs) zero x rest e = omega arith
  next_inside (y ∷ xs) (suc n) x rest e = omega (arith, next_inside xs n x rest e)

  drop_nothing : (xs : List A) (n : ℕ) → drop n xs ≡ [] → length xs ≤ n
  drop_nothing [] n e = omega arith
  drop_nothing (y ∷ xs) zero e = absurd (let z : ◌≡◌ {A = ℕ} 0 1 = cc in omega arith)
  drop_nothing (y ∷ xs) (suc n) e = omega (arith, drop_nothing xs n e)

  -- one more is taken, if there is room
  pushed : (room : ℕ) (xs : List A) (x : A) → (if nat_lt (length (take room xs)) room then take room xs ++ x ∷ [] else take room xs) ≡ take room (xs ++ x ∷ [])
  pushed room xs x = elim (cases_lt (length xs) room) [
    | inl h ↦ (
        let e : take room xs ≡ xs = take_all room xs (omega arith) in
        ap (λ l. if nat_lt (length l) room then l ++ x ∷ [] else l) e ∙ cond-true (nat_lt (length xs) room) _ _ (lt-ltb _ _ h)
        ∙ sym (take_all room (xs ++ x ∷ []) (omega (arith, length-append xs (x ∷ [])))))
    | inr h ↦ (
        cond-false (nat_lt (length (take room xs)) room) _ _ (le-ltb _ _ (omega (arith, length-take room xs)))
        ∙ sym (take-append-le room xs (x ∷ []) h))
  ]

-- The search stands behind the first `count` of the whole list, and what is below the bound is left; the first so many are taken.
pub record Selected {A : Type 0} (room : ℕ) (whole left : List A) (count : ℕ) (taken : List A) : Type 0 where
  pub rest : drop count whole ≡ left
  pub inside : count ≤ length whole
  pub taken_are : taken ≡ take room (take count whole)

module _ {A : Type 0} (room : ℕ) (whole : List A) where
  pub selected_none : (taken : List A) → taken ≡ [] → Selected room whole whole 0 taken
  selected_none taken e = record { rest = refl; inside = omega arith; taken_are = e ∙ nothing room }
    where
      nothing : (n : ℕ) → ◌≡◌ {A = List A} [] (take n (take 0 whole))
      nothing zero = refl
      nothing (suc n) = refl

  pub selected_more : (left : List A) (x : A) (more : List A) (count : ℕ) (taken next : List A) → Selected room whole left count taken → left ≡ x ∷ more
      → next ≡ (if nat_lt (length taken) room then taken ++ x ∷ [] else taken) → Selected room whole more (count + 1) next
  selected_more left x more count taken next s e p =
      let d : drop count whole ≡ x ∷ more = s.rest ∙ e in
      record {
        rest = rw add-one (drop_next whole count x more d);
        inside = omega (arith, next_inside whole count x more d);
        taken_are = p ∙ ap (λ l. if nat_lt (length l) room then l ++ x ∷ [] else l) s.taken_are ∙ pushed room (take count whole) x
            ∙ ap (take room) (sym (take_next whole count x more d) ∙ ap (λ (k : ℕ). take k whole) (sym (add-one count)));
      }

  pub selected_count : (left : List A) (count : ℕ) (taken : List A) → Selected room whole left count taken → left ≡ [] → count ≡ length whole
  selected_count left count taken s e = let z = drop_nothing whole count (s.rest ∙ e) in omega (arith, s.inside)

  pub selected_all : (left : List A) (count : ℕ) (taken : List A) → Selected room whole left count taken → left ≡ [] → count ≤ room → taken ≡ whole
  selected_all left count taken s e few =
      let z = drop_nothing whole count (s.rest ∙ e) in
      let all : take count whole ≡ whole = take_all count whole z in
      s.taken_are ∙ ap (take room) all ∙ take_all room whole (omega (arith, s.inside))
