-- Rows and legs written one offer at a time.
use Rattle.std.proofs.Common.{◌≡◌, ℕ, zero, suc, ◌+◌, ◌<◌, ◌≤◌, List, [], ◌∷◌, ◌++◌, map, length, get_or, take, drop, sym, ap, ◌∙◌, append_assoc, append-nil, arith, length-append, take-append-drop, length-take}
use lib.ListN.{length-map}
use Rattle.std.proofs.lemmas.List.{take_more}
use Rattle.journeys.specs.declared.best_offer.BestOffer.{BestOffer}
use Rattle.journeys.specs.declared.label.Label.{Label}
use Rattle.journeys.specs.declared.leg.Leg.{Leg as SheetLeg}
use Rattle.journeys.specs.Lists.{Each}
use Rattle.journeys.specs.Traces.{legs_of, spelled}
use Rattle.sheet.specs.declared.rows.Row.{Row}
use Rattle.sheet.specs.Format.{encode}
use Rattle.sheet.specs.Outcome.{pasted, writing, accepted}
use Rattle.sheet.specs.Rows.{Good}
use Rattle.sheet.proofs.Accepts.{good_written}
use Rattle.sheet.proofs.Pasting.{pasted_more}
use Rattle.planner.specs.Handout.{row_of, legs_from}

-- what a read past the end would give
abbrev pub no_offer : BestOffer
no_offer = record { arrival = 0; price = 0; label = 0 }

pub each_get : {A : Type 0} (P : A → Type 0) (xs : List A) → Each P xs → (i : ℕ) (d : A) → i < length xs → P (get_or xs i d)
each_get P [] e i d h = absurd (omega arith)
each_get P (x ∷ xs) e zero d h = e.0
each_get P (x ∷ xs) e (suc i) d h = each_get P xs e.1 i d (omega arith)

module _ {S : Type 0} (ls : List (Label S)) where
  legs_append : (row : ℕ) (xs ys : List BestOffer) → legs_from ls row (xs ++ ys) ≡ legs_from ls row xs ++ legs_from ls (row + length xs) ys
  legs_append row [] ys = ap (λ (n : ℕ). legs_from ls n ys) (let z : row ≡ row + 0 = omega arith in z)
  legs_append row (x ∷ xs) ys =
      ap (λ l. map (spelled row) (legs_of ls x.label) ++ l) (legs_append (suc row) xs ys ∙ ap (λ (n : ℕ). legs_from ls (suc row) xs ++ legs_from ls n ys) (let z : suc row + length xs ≡ row + suc (length xs) = omega arith in z))
      ∙ sym (append_assoc (map (spelled row) (legs_of ls x.label)) (legs_from ls (suc row) xs) (legs_from ls (row + suc (length xs)) ys))

  -- the legs of one row more
  legs_more : (os : List BestOffer) (i : ℕ) → i < length os → legs_from ls 0 (take (i + 1) os) ≡ legs_from ls 0 (take i os) ++ map (spelled i) (legs_of ls (get_or os i no_offer).label)
  legs_more os i h =
      ap (legs_from ls 0) (take_more os i no_offer h) ∙ legs_append 0 (take i os) (get_or os i no_offer ∷ [])
      ∙ ap (λ l. legs_from ls 0 (take i os) ++ l) (append-nil (map (spelled (0 + length (take i os))) (legs_of ls (get_or os i no_offer).label)) ∙ ap (λ (n : ℕ). map (spelled n) (legs_of ls (get_or os i no_offer).label)) (let z : 0 + length (take i os) ≡ i = omega (arith, length-take i os) in z))

  front_fits : (os : List BestOffer) (n : ℕ) → length (legs_from ls 0 (take n os)) ≤ length (legs_from ls 0 os)
  front_fits os n =
      let e = ap length (ap (legs_from ls 0) (sym (take-append-drop n os)) ∙ legs_append 0 (take n os) (drop n os)) in
      omega (arith, e, length-append (legs_from ls 0 (take n os)) (legs_from ls (0 + length (take n os)) (drop n os)))

  module _ (os : List BestOffer) (i end : ℕ) (h : i < length os) (e : end ≡ length (legs_from ls 0 (take i os))) where
    pub leg_room : (room : ℕ) → length (legs_from ls 0 os) ≤ room → end + length (legs_of ls (get_or os i no_offer).label) ≤ room
    leg_room room r =
        let a = ap length (legs_more os i h) in
        let b = length-append (legs_from ls 0 (take i os)) (map (spelled i) (legs_of ls (get_or os i no_offer).label)) in
        let m = length-map (legs_of ls (get_or os i no_offer).label) (spelled i) in
        omega (arith, a, b, m, front_fits os (i + 1))

    pub row_end : (next : ℕ) → next ≡ end + length (legs_of ls (get_or os i no_offer).label) → next ≡ length (legs_from ls 0 (take (i + 1) os))
    row_end next n =
        let a = ap length (legs_more os i h) in
        let b = length-append (legs_from ls 0 (take i os)) (map (spelled i) (legs_of ls (get_or os i no_offer).label)) in
        let m = length-map (legs_of ls (get_or os i no_offer).label) (spelled i) in
        omega (arith, a, b, m)

    pub row_legs : (old mid new : List SheetLeg) → length (legs_from ls 0 os) ≤ length old → mid ≡ pasted 0 (legs_from ls 0 (take i os)) old → new ≡ pasted end (map (spelled i) (legs_of ls (get_or os i no_offer).label)) mid → new ≡ pasted 0 (legs_from ls 0 (take (i + 1) os)) old
    row_legs old mid new room was now =
        let m = length-map (legs_of ls (get_or os i no_offer).label) (spelled i) in
        pasted_more 0 end (legs_from ls 0 (take i os)) (map (spelled i) (legs_of ls (get_or os i no_offer).label)) old mid new (omega arith) was now (omega (arith, m, leg_room (length old) room))
        ∙ ap (λ l. pasted 0 l old) (sym (legs_more os i h))

-- good rows are written
pub rows_written : (os : List BestOffer) (rows : List Row) (sheet : List ℕ) → rows ≡ map row_of os → Good (map row_of os) → 225 ≤ length sheet → writing rows sheet ≡ accepted (encode (map row_of os)) sheet
rows_written os rows sheet e good room = ap (λ l. writing l sheet) e ∙ good_written (map row_of os) sheet good room
