-- A round writes labels of its own alone, and these board nothing in it. Assumes nothing.
use Rattle.std.proofs.Common.{◌≡◌, ℕ, zero, suc, ◌+◌, ◌≤◌, ◌==◌, ◌&&◌, Bool, true, false, cond, List, [], ◌∷◌, ◌++◌, map, length, drop, Ok, Err, Result, sym, refl, ap, ◌∙◌, subst, arith, nat_le, nat_lt}
use Rattle.std.specs.List.{list_all}
use Rattle.std.proofs.Math.Seq.{drop-length}
use Rattle.std.proofs.lemmas.Bool.{and_parts, and_from, eq-eqb, eqb-true}
use Rattle.std.proofs.lemmas.List.Folds.{list_all-append}
use Rattle.timetable.specs.declared.hops.Hop.{Hop}
use Rattle.journeys.specs.declared.full.Full.{Full}
use Rattle.journeys.specs.declared.full.Full.TheVariants.{Store}
use Rattle.journeys.specs.declared.label.Label.{Label}
use Rattle.journeys.specs.declared.label.Passenger.{Passenger}
use Rattle.journeys.specs.Fare.{FareModel}
use Rattle.journeys.specs.Labels.{covers, label_by_ride, passenger, rides_on}
use Rattle.journeys.specs.Lists.{any}
use Rattle.journeys.specs.Runs.{Run, on, ended, and_then, within, run_each, result_of}
use Rattle.journeys.specs.Scan.{Room, Stage, emptied, kept, with_aboard, with_store, offer, seat, board, alight, boarding, alighting, riding, pass_hop}
use Rattle.scan.specs.Filling.{ran}
use Rattle.scan.specs.Rounds.{all_from}

-- a run of steps keeps what each step keeps
run_keeps : {A X : Type 0} (P : X → Type 0) (f : ℕ → A → X → Run X) → ((i : ℕ) (a : A) (x : X) → P x → P (result_of (f i a x))) → (i : ℕ) (l : List A) (x : X) → P x → P (result_of (run_each f i l x))
run_keeps {X = X} P f each i [] x p = p
run_keeps {X = X} P f each i (a ∷ l) x p = go (f i a x) (each i a x p) (run_keeps P f each (suc i) l)
  where
    go : (r : Run X) → P (result_of r) → ((y : X) → P y → P (result_of (run_each f (suc i) l y))) → P (result_of (and_then r (run_each f (suc i) l)))
    go (on y) q rest = rest y q
    go (ended e y) q rest = q

pub result_ran : {X : Type 0} (o : Result (Unit {0}) Full) (x : X) → result_of (ran o x) ≡ x
result_ran (Ok done) x = refl
result_ran (Err q) x = refl

drop_all : {X : Type 0} (p : X → Bool) (b : ℕ) (xs : List X) → list_all p xs ≡ true → list_all p (drop b xs) ≡ true
drop_all p zero xs a = a
drop_all p (suc b) [] a = refl
drop_all p (suc b) (x ∷ xs) a = drop_all p b xs (and_parts (p x) (list_all p xs) a).1

-- what holds from a place on holds behind it
pub later_all : {X : Type 0} (p : X → Bool) (b n : ℕ) (xs : List X) → b ≤ n → list_all p (drop b xs) ≡ true → list_all p (drop n xs) ≡ true
later_all p zero n xs h a = drop_all p n xs a
later_all p (suc b) zero xs h a = absurd (omega (arith, h))
later_all p (suc b) (suc n) [] h a = refl
later_all p (suc b) (suc n) (x ∷ xs) h a = later_all p b n xs (omega (arith, h)) a

more_all : {X : Type 0} (p : X → Bool) (b : ℕ) (xs : List X) (x : X) → list_all p (drop b xs) ≡ true → p x ≡ true → list_all p (drop b (xs ++ (x ∷ []))) ≡ true
more_all p zero xs x a h = list_all-append p xs (x ∷ []) ∙ and_from (list_all p xs) _ a (and_from (p x) true h refl)
more_all p (suc b) [] x a h = drop_all p b [] refl
more_all p (suc b) (y ∷ xs) x a h = more_all p b xs x a h

-- nothing is written yet
pub none_from : {S : Type 0} (k : ℕ) (ls : List (Label S)) (b : ℕ) → b ≡ length ls → all_from b k ls ≡ true
none_from k ls b e = ap (λ (n : ℕ). all_from n k ls) e ∙ ap (list_all (λ l. l.rides == k)) (drop-length ls)

module _ {S : Type 0} (f : FareModel S) (b k i : ℕ) (h : Hop) where
  abbrev Kept : List (Label S) → Type 0
  Kept ls = all_from b k ls ≡ true

  offers : (room : ℕ) (c : Label S) (ls : List (Label S)) → c.rides ≡ k → Kept ls → Kept (result_of (offer f room c ls))
  offers room c ls r p = go (any (λ l. covers f l c) ls) (nat_lt (length ls) room)
    where
      go : (x y : Bool) → Kept (result_of (cond x (on ls) (cond y (on (ls ++ (c ∷ []))) (ended Store ls))))
      go true y = p
      go false true = more_all (λ l. l.rides == k) b ls c p (eq-eqb c.rides k r)
      go false false = p

  store_within : (s : Stage S) (r : Run (List (Label S))) → (result_of (within (with_store s) r)).store ≡ result_of r
  store_within s (on x) = refl
  store_within s (ended q x) = refl

  alights : (room : Room) (s : Stage S) → Kept s.store → Kept (result_of (alighting f room k i h s)).store
  alights room s p =
      subst Kept (sym (store_within s (run_each (alight f room.labels k i h) 0 s.aboard s.store)))
      (run_keeps Kept (alight f room.labels k i h) (λ n e ls q. offers room.labels (label_by_ride k i h e) ls refl q) 0 s.aboard s.store p)

  rides : (room : Room) (s : Stage S) → Kept s.store → Kept (result_of (riding f room k i h s)).store
  rides room s p = go (run_each (board f room.aboard k i h) 0 (kept h s).store (kept h s).aboard)
    where
      same : Kept (kept h s).store
      same = either (s.trip == h.trip)
        where
          either : (x : Bool) → Kept (cond x s (emptied h.trip s)).store
          either true = p
          either false = p

      go : (r : Run (List (Passenger S))) → Kept (result_of (and_then (within (with_aboard (kept h s)) r) (λ t. alighting f room k i h (with_aboard t (map (rides_on f h) t.aboard))))).store
      go (on ps) = alights room (with_aboard (with_aboard (kept h s) ps) (map (rides_on f h) ps)) same
      go (ended q ps) = same

  passes : (room : Room) (s : Stage S) → Kept s.store → Kept (result_of (pass_hop f room k i h s)).store
  unfolding pass_hop
  passes room s p = go h.runs
    where
      go : (x : Bool) → Kept (result_of (cond x (riding f room k i h s) (on (emptied h.trip s)))).store
      go true = rides room s p
      go false = p

  -- a hop that is passed writes labels of its round alone
  pub passed_from : (room : Room) (s t : Stage S) (o : Result (Unit {0}) Full) → pass_hop f room k i h s ≡ ran o t → all_from b k s.store ≡ true → all_from b k t.store ≡ true
  passed_from room s t o e p = subst (λ (u : Stage S). Kept u.store) (ap result_of e ∙ result_ran o t) (passes room s p)

  -- they do not board in it
  pub none_boards_from : (room j : ℕ) (ls : List (Label S)) (ps : List (Passenger S)) → list_all (λ l. l.rides == k) ls ≡ true → run_each (board f room k i h) j ls ps ≡ on ps
  none_boards_from room j [] ps a = refl
  none_boards_from room j (l ∷ ls) ps a =
      let p = and_parts (l.rides == k) (list_all (λ x. x.rides == k) ls) a in
      ap (λ x. and_then x (run_each (board f room k i h) (suc j) ls)) (one (suc l.rides == k) refl (eqb-true l.rides k p.0)) ∙ none_boards_from room (suc j) ls ps p.1
    where
      one : (x : Bool) → (suc l.rides == k) ≡ x → l.rides ≡ k → board f room k i h j l ps ≡ on ps
      one true e r = absurd (let z = eqb-true (suc l.rides) k e in omega (arith, z, r))
      one false e r = ap (λ x. cond (x && ((l.stop == h.from) && nat_le l.time h.departure)) (seat f room i (passenger f i j l) ps) (on ps)) e
