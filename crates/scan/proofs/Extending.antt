-- Loops that write labels to a store. Assumes nothing.
use Rattle.std.proofs.Common.{◌≡◌, ℕ, suc, ◌+◌, ◌<◌, List, ◌∷◌, length, get_or, take, drop, Err, Result, sym, refl, ap, ◌∙◌, arith, add-one, drop-cons, get_or-take}
use Rattle.std.proofs.lemmas.List.{take-take, take_all}
use Rattle.journeys.specs.declared.full.Full.{Full}
use Rattle.journeys.specs.declared.label.Label.{Label}
use Rattle.journeys.specs.Runs.{Run, on, ended, and_then, run_each, overlay}
use Rattle.scan.specs.declared.store.Store.{Store}
use Rattle.scan.specs.Chains.{linked}
use Rattle.scan.specs.Filling.{ran}
use Rattle.scan.specs.Stores.{as_filled, Chained, Extended, labels_of, room_of}
use Rattle.scan.proofs.Chains.{length_linked}
use Rattle.scan.proofs.Filling.{overlay_same}
use Rattle.scan.proofs.Loops.{overlay_overlay}

module _ {S : Type 0} where
  pub extended_same : (s : Store S) → Chained s → Extended s s
  extended_same s c = record {
    same = refl;
    room = refl;
    longer = omega arith;
    first = take_all (length (labels_of s)) (labels_of s) (omega arith);
    behind = overlay_same (as_filled s) ∙ ap (λ l. overlay l s.places.now) c.linked;
    chained = c;
  }

  pub extended_then : (a b c : Store S) → Extended a b → Extended b c → Extended a c
  extended_then a b c p q = record {
    same = q.same ∙ p.same;
    room = q.room ∙ p.room;
    longer = omega (arith, p.longer, q.longer);
    first = sym (take-take (length (labels_of a)) (length (labels_of b)) (labels_of c) p.longer) ∙ ap (take (length (labels_of a))) q.first ∙ p.first;
    behind = q.behind ∙ ap (overlay (linked (labels_of c))) p.behind ∙ overlay_overlay (linked (labels_of b)) (linked (labels_of c)) a.places.now (omega (arith, q.longer, length_linked 0 (labels_of b), length_linked 0 (labels_of c)));
    chained = q.chained;
  }

drop_here : {A : Type 0} (xs : List A) (i : ℕ) (x : A) → i < length xs → x ≡ get_or xs i x → drop i xs ≡ x ∷ drop (i + 1) xs
drop_here xs i x h e = drop-cons xs i x h ∙ (λ v. sym e v ∷ drop (sym (add-one i) v) xs)

-- A loop over the list xs that writes labels: f takes the room as an argument, which stays.
module _ {A S : Type 0} (f : ℕ → ℕ → A → List (Label S) → Run (List (Label S))) where
  -- so far, the first i have been gone over
  pub record Going (start now : Store S) (xs : List A) (i : ℕ) : Type 0 where
    pub rest : run_each (f (room_of start)) 0 xs (labels_of start) ≡ run_each (f (room_of start)) i (drop i xs) (labels_of now)
    pub extended : Extended start now

  turn : (start mid : Store S) (xs : List A) (i : ℕ) (x : A) (r : Run (List (Label S))) → i < length xs → x ≡ get_or xs i x → Going start mid xs i → f (room_of mid) i x (labels_of mid) ≡ r
      → run_each (f (room_of start)) 0 xs (labels_of start) ≡ and_then r (run_each (f (room_of start)) (i + 1) (drop (i + 1) xs))
  turn start mid xs i x r h e s t =
      s.rest ∙ ap (λ l. run_each (f (room_of start)) i l (labels_of mid)) (drop_here xs i x h e)
      ∙ (λ v. and_then (f (sym s.extended.room v) i x (labels_of mid)) (run_each (f (room_of start)) (sym (add-one i) v) (drop (i + 1) xs)))
      ∙ ap (λ z. and_then z (run_each (f (room_of start)) (i + 1) (drop (i + 1) xs))) t

  pub goes_on : (start mid new : Store S) (xs : List A) (i : ℕ) (x : A) → i < length xs → x ≡ get_or xs i x → Going start mid xs i → f (room_of mid) i x (labels_of mid) ≡ on (labels_of new) → Extended mid new → Going start new xs (i + 1)
  goes_on start mid new xs i x h e s t k = record { rest = turn start mid xs i x (on (labels_of new)) h e s t; extended = extended_then start mid new s.extended k }

  pub stops : (start mid new : Store S) (xs : List A) (i : ℕ) (x : A) (q : Full) (o : Result (Unit {0}) Full) → i < length xs → x ≡ get_or xs i x → Going start mid xs i → f (room_of mid) i x (labels_of mid) ≡ ended q (labels_of new) → o ≡ Err q
      → run_each (f (room_of start)) 0 xs (labels_of start) ≡ ran o (labels_of new)
  stops start mid new xs i x q o h e s t z = turn start mid xs i x (ended q (labels_of new)) h e s t ∙ ap (λ a. ran a (labels_of new)) (sym z)

-- the labels written at first are read there still
pub read_kept : {S : Type 0} (start now : Store S) (i : ℕ) (x : Label S) → Extended start now → i < length (labels_of start) → drop i (labels_of now) ≡ x ∷ drop (suc i) (labels_of now) → x ≡ get_or (labels_of start) i x
read_kept start now i x k h e =
    let n = length (labels_of start) in
    let is : x ≡ get_or (labels_of now) i x = let z = sym e ∙ drop-cons (labels_of now) i x (omega (arith, h, k.longer)) in cc in
    is ∙ sym (get_or-take n (labels_of now) i x h) ∙ ap (λ l. get_or l i x) k.first
