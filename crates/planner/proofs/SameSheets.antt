-- Two sheets are the same bytes exactly where the two questions have the same best offers.
use Rattle.std.proofs.Common.{◌≡◌, ℕ, ◌<◌, Bool, true, false, List, [], ◌∷◌, take, Ok, Decides, Result, sym, refl, ap, ◌∙◌, subst, ap₂, inl, inr, arith}
use Rattle.std.specs.Str.{bytes_eq}
use Rattle.std.proofs.lemmas.Slice.Eq.{bytes_eq-Decides}
use Rattle.journeys.specs.Offers.{Offer}
use Rattle.sheet.specs.declared.rows.Row.{Row}
use Rattle.sheet.specs.Format.{encode}
use Rattle.sheet.specs.Rows.{Ordered}
use Rattle.sheet.proofs.Sheets.{encode_one}
use Rattle.planner.specs.declared.answer.Answer.{Answer}
use Rattle.planner.specs.declared.refusal.Refusal.{Refusal}
use Rattle.planner.specs.Comparing.{Same, In, offer_of_row, SheetOfSet, compared}

-- every later row arrives later
later : (r : Row) (rows : List Row) → Ordered (r ∷ rows) → (x : Row) → In x rows → r.arrival < x.arrival
later r [] o x i = absurd i
later r (s ∷ rows) o x (inl e) = subst (λ (z : Row). r.arrival < z.arrival) e o.0.0
later r (s ∷ rows) o x (inr i) = omega (arith, o.0.0, later s rows o.1 x i)

ordered_tail : (r : Row) (rows : List Row) → Ordered (r ∷ rows) → Ordered rows
ordered_tail r [] o = tt
ordered_tail r (s ∷ rows) o = o.1

-- two lists of rows in order that have the same rows are the same
pub same_rows : (xs ys : List Row) → Ordered xs → Ordered ys → ((r : Row) → In r xs → In r ys) → ((r : Row) → In r ys → In r xs) → xs ≡ ys
same_rows [] [] o p f g = refl
same_rows [] (y ∷ ys) o p f g = absurd (g y (inl refl))
same_rows (x ∷ xs) [] o p f g = absurd (f x (inl refl))
same_rows (x ∷ xs) (y ∷ ys) o p f g =
    let head : x ≡ y = heads (f x (inl refl)) (g y (inl refl)) in
    ap₂ (λ (a : Row) (l : List Row). a ∷ l) head (same_rows xs ys (ordered_tail x xs o) (ordered_tail y ys p)
    (λ r i. rest (f r (inr i)) (subst (λ (z : Row). z.arrival < r.arrival) head (later x xs o r i)))
    (λ r i. back (g r (inr i)) (subst (λ (z : Row). z.arrival < r.arrival) (sym head) (later y ys p r i))))
  where
    heads : In x (y ∷ ys) → In y (x ∷ xs) → x ≡ y
    heads (inl e) j = sym e
    heads (inr i) (inl e) = e
    heads (inr i) (inr j) = absurd (omega (arith, later y ys p x i, later x xs o y j))

    rest : {r : Row} → In r (y ∷ ys) → y.arrival < r.arrival → In r ys
    rest (inl e) h = absurd (omega (arith, h, ap (λ (z : Row). z.arrival) e))
    rest (inr i) h = i

    back : {r : Row} → In r (x ∷ xs) → x.arrival < r.arrival → In r xs
    back (inl e) h = absurd (omega (arith, h, ap (λ (z : Row). z.arrival) e))
    back (inr i) h = i

-- two sheets of sets of offers
module _ {P Q : Offer → Type 0} {n k : ℕ} {bytes others : List ℕ} (s : SheetOfSet P n bytes) (t : SheetOfSet Q k others) where
  rows_alike : Same P Q → s.rows ≡ t.rows
  rows_alike same = same_rows _ _ s.good.order t.good.order
      (λ r i. t.whole r ((same (offer_of_row r)).0 (s.sound r i)))
      (λ r i. s.whole r ((same (offer_of_row r)).1 (t.sound r i)))

  sets_alike : s.rows ≡ t.rows → Same P Q
  sets_alike e o =
      let r : Row = record { arrival = o.arrival; price = o.price } in (
        (λ b. t.sound r (subst (In r) e (s.whole r b))),
        λ b. s.sound r (subst (In r) (sym e) (t.whole r b)),
      )

  pub same_sheets : (same : Bool) → Decides same (take n bytes ≡ take k others) → Decides same (Same P Q)
  same_sheets same d = (
    (λ z. sets_alike (encode_one s.rows t.rows s.good t.good (sym s.sheet ∙ d.0 z ∙ t.sheet))),
    λ b. d.1 (s.sheet ∙ ap encode (rows_alike b) ∙ sym t.sheet),
  )

-- two tests of one fact are the same
decides_same : {P : Type 0} (a b : Bool) → Decides a P → Decides b P → a ≡ b
decides_same true true d e = refl
decides_same false false d e = refl
decides_same true false d e = sym (e.1 (d.0 refl))
decides_same false true d e = d.1 (e.0 refl)

-- the comparison of two answered questions
pub compared_ok : (a b : Answer) (s t : List ℕ) (A B : Result Answer Refusal) (s' t' : List ℕ) (same : Bool) → Ok a ≡ A → s ≡ s' → Ok b ≡ B → t ≡ t' → Decides same (take a.bytes s ≡ take b.bytes t) → Ok same ≡ compared A s' B t'
compared_ok a b s t A B s' t' same p q r u d =
    ap Ok (decides_same same (bytes_eq (take a.bytes s) (take b.bytes t)) d (bytes_eq-Decides (take a.bytes s) (take b.bytes t))) ∙ (λ v. compared (p v) (q v) (r v) (u v))
