-- What the two lent lists hold after a step of the scan. Assumes nothing.
use Rattle.std.proofs.Common.{◌≡◌, ℕ, zero, suc, ◌+◌, ◌<◌, ◌≤◌, ltb, List, [], map, length, get_or, take, Some, None, Ok, Err, Result, sym, refl, ap, ◌∙◌, subst, inl, inr, arith, add-one, length-append, length-drop}
use lib.ListN.{length-map}
use Rattle.std.specs.List.{slice_get}
use Rattle.std.proofs.lemmas.Bool.{cond-true, cases_eq, lt-ltb}
use Rattle.std.proofs.lemmas.Option.{slice_get-get_or}
use Rattle.timetable.specs.declared.hops.Hop.{Hop}
use Rattle.timetable.specs.Table.{most_hops, count_of, hop_at}
use Rattle.journeys.specs.declared.full.Full.{Full}
use Rattle.journeys.specs.declared.label.Label.{Label}
use Rattle.journeys.specs.declared.label.Passenger.{Passenger}
use Rattle.journeys.specs.declared.network.Footpath.{Footpath}
use Rattle.journeys.specs.Fare.{FareModel}
use Rattle.journeys.specs.Labels.{rides_on}
use Rattle.journeys.specs.Runs.{Run, on, ended, and_then, within, run_each, overlay}
use Rattle.journeys.specs.Scan.{no_hop, passed, Room, Stage, offer, board, alight, kept, with_aboard, with_store, boarding, alighting, riding, pass_hop, pass_hops, round, rounds, blank, scan}
use Rattle.scan.specs.declared.filled.Filled.{Filled}
use Rattle.scan.specs.declared.ride.Ride.{Ride}
use Rattle.scan.specs.declared.store.Store.{Store}
use Rattle.scan.specs.Filling.{filled, Kept, ran}
use Rattle.scan.specs.Stages.{stage, room, stage_of, room_for, Carried}
use Rattle.scan.specs.Stores.{Extended, labels_of, room_of}
use Rattle.scan.proofs.Loops.{take_overlay}
use Rattle.scan.proofs.Extending.{extended_then}
use Rattle.scan.proofs.Filling.{length_filled}

module _ {S : Type 0} where
  pub carried_then : (a b c : Ride S) → Carried a b → Carried b c → Carried a c
  carried_then a b c p q = record {
    labels = extended_then a.labels.now b.labels.now c.labels.now p.labels q.labels;
    same = q.same ∙ p.same;
    room = q.room ∙ p.room;
    same_labels = q.same_labels ∙ p.same_labels;
    same_aboard = q.same_aboard ∙ p.same_aboard;
  }

  pub same_room : (a b : Ride S) → Carried a b → room_for b ≡ room_for a
  same_room a b p = λ v. record { labels = p.labels.room v; aboard = p.room v }

  -- a run of those aboard, or of the labels, in the whole stage
  in_aboard : (trip : ℕ) (labels : Store S) (old new : Filled (Passenger S)) (o : Result (Unit {0}) Full) → Kept old new → within (with_aboard (stage trip labels old)) (ran o (filled new)) ≡ ran o (stage trip labels new)
  in_aboard trip labels old new (Ok done) k = ap (λ places. on (record { trip = trip; aboard = filled new; places = places; store = labels_of labels })) (sym k.behind)
  in_aboard trip labels old new (Err q) k = ap (λ places. ended q (record { trip = trip; aboard = filled new; places = places; store = labels_of labels })) (sym k.behind)

  pub in_labels : (trip : ℕ) (old new : Store S) (aboard : Filled (Passenger S)) (o : Result (Unit {0}) Full) → within (with_store (stage trip old aboard)) (ran o (labels_of new)) ≡ ran o (stage trip new aboard)
  in_labels trip old new aboard (Ok done) = refl
  in_labels trip old new aboard (Err q) = refl

-- What all aboard have ridden to.
module _ {X : Type 0} (r : X → X) (old new : Filled X) (used : new.used ≡ old.used) (places : new.places.now ≡ overlay (map r (filled old)) old.places.now) where
  many : length (map r (filled old)) ≡ old.used
  many = length-map (filled old) r ∙ length_filled old

  pub changed_first : filled new ≡ map r (filled old)
  changed_first = ap (take new.used) places ∙ take_overlay (map r (filled old)) old.places.now new.used (used ∙ sym many)

  pub changed_room : length new.places.now ≡ length old.places.now
  changed_room = ap length places ∙ simp (length-append, length-drop) (let fits = old.fits in omega (arith, many))

module _ {S : Type 0} (f : FareModel S) (k i : ℕ) (h : Hop) (old : Ride S) (mid : Ride S) (kept_is : stage_of mid ≡ kept h (stage_of old)) (carried : Carried old mid) where
  -- where those aboard lie once all have boarded
  pub riding_from : (ab : Filled (Passenger S)) (o : Result (Unit {0}) Full) → run_each (board f (length mid.aboard.now.places.now) k i h) 0 (labels_of mid.labels.now) (filled mid.aboard.now) ≡ ran o (filled ab) → Kept mid.aboard.now ab
      → riding f (room_for old) k i h (stage_of old) ≡ and_then (ran o (stage mid.trip mid.labels.now ab)) (λ t. alighting f (room_for old) k i h (with_aboard t (map (rides_on f h) t.aboard)))
  riding_from ab o run fills =
      ap (λ b. and_then b (λ t. alighting f (room_for old) k i h (with_aboard t (map (rides_on f h) t.aboard))))
      ((λ v. boarding f (sym (same_room old mid carried) v) k i h (sym kept_is v))
      ∙ ap (within (with_aboard (stage_of mid))) run ∙ in_aboard mid.trip mid.labels.now mid.aboard.now ab o fills)

  pub alighting_run : (ab rode : Filled (Passenger S)) (ls : Store S) (o : Result (Unit {0}) Full)
      → rode.used ≡ ab.used → rode.places.now ≡ overlay (map (rides_on f h) (filled ab)) ab.places.now
      → (seen : List (Passenger S)) → seen ≡ filled rode → run_each (alight f (room_of mid.labels.now) k i h) 0 seen (labels_of mid.labels.now) ≡ ran o (labels_of ls)
      → alighting f (room_for old) k i h (with_aboard (stage mid.trip mid.labels.now ab) (map (rides_on f h) (filled ab))) ≡ ran o (stage mid.trip ls rode)
  alighting_run ab rode ls o used places seen all run =
      let first = changed_first (rides_on f h) ab rode used places in
      (λ v. alighting f (sym (same_room old mid carried) v) k i h (record { trip = mid.trip; aboard = sym first v; places = sym places v; store = labels_of mid.labels.now }))
      ∙ ap (λ l. within (with_store (stage mid.trip mid.labels.now rode)) (run_each (alight f (room_of mid.labels.now) k i h) 0 l (labels_of mid.labels.now))) (sym all)
      ∙ ap (within (with_store (stage mid.trip mid.labels.now rode))) run ∙ in_labels mid.trip mid.labels.now ls rode o

passed_few : (hs : List Hop) (k : ℕ) → passed hs k ≤ count_of hs
passed_few hs zero = omega arith
passed_few hs (suc k) = omega arith

-- each place that a round passes has a hop
hop_there : (hs : List Hop) (k i : ℕ) → i < passed hs k → hop_at hs i ≡ Some (get_or hs i no_hop)
hop_there hs k i h =
    let p : i < count_of hs = omega (arith, passed_few hs k) in
    let near : i < most_hops = omega arith in
    let there : i < length hs = omega arith in
    cond-true (ltb i most_hops) (slice_get hs i) None (lt-ltb i most_hops near) ∙ slice_get-get_or hs i no_hop there

-- A run of so many steps, each from where those before it have come to: `step` takes the rooms as an argument, which stay.
module _ {S : Type 0} (run : Room → ℕ → Run (Stage S)) (step : Room → ℕ → Stage S → Run (Stage S)) (is : (c : Room) (i : ℕ) → run c (suc i) ≡ and_then (run c i) (step c i)) where
  pub record Came (start now : Ride S) (i : ℕ) : Type 0 where
    pub stage : run (room_for start) i ≡ on (stage_of now)
    pub carried : Carried start now

  pub comes : (start mid new : Ride S) (i : ℕ) (r : Run (Stage S)) → Came start mid i → step (room_for mid) i (stage_of mid) ≡ r → run (room_for start) (i + 1) ≡ r
  comes start mid new i r c t = rw add-one (is (room_for start) i ∙ ap (λ b. and_then b (step (room_for start) i)) c.stage ∙ (λ v. step (sym (same_room start mid c.carried) v) i (stage_of mid)) ∙ t)

  pub comes_on : (start mid new : Ride S) (i : ℕ) → Came start mid i → step (room_for mid) i (stage_of mid) ≡ on (stage_of new) → Carried mid new → Came start new (i + 1)
  comes_on start mid new i c t k = record { stage = comes start mid new i (on (stage_of new)) c t; carried = carried_then start mid new c.carried k }

  stays : (c : Room) (q : Full) (s : Stage S) (i n : ℕ) → i ≤ n → run c i ≡ ended q s → run c n ≡ ended q s
  stays c q s i zero h e = let z : i ≡ 0 = omega arith in subst (λ (m : ℕ). run c m ≡ ended q s) z e
  stays c q s i (suc n) h e = elim (cases_eq i (suc n)) [
    | inl z ↦ subst (λ (m : ℕ). run c m ≡ ended q s) z e
    | inr ne ↦ is c n ∙ ap (λ b. and_then b (step c n)) (stays c q s i n (omega arith) e)
  ]

  pub ends : (start mid new : Ride S) (q : Full) (o : Result (Unit {0}) Full) (i n : ℕ) → i < n → Came start mid i → step (room_for mid) i (stage_of mid) ≡ ended q (stage_of new) → o ≡ Err q → run (room_for start) n ≡ ran o (stage_of new)
  ends start mid new q o i n h c t z = stays (room_for start) q (stage_of new) (i + 1) n (omega arith) (comes start mid new i (ended q (stage_of new)) c t) ∙ ap (λ a. ran a (stage_of new)) (sym z)

-- The hops of a round, each read from a timetable.
module _ {S : Type 0} (f : FareModel S) (hops : List Hop) (k : ℕ) where
  -- the hops before i are passed
  abbrev pub Passing : Ride S → Ride S → ℕ → Type 0
  Passing start = Came (λ c. pass_hops f c hops k (stage_of start)) (λ c i. pass_hop f c k i (get_or hops i no_hop)) (λ c i. refl) start

  pub hop_missed : (i : ℕ) → i < passed hops k → None ≡ hop_at hops i → ⊥
  hop_missed i h e = let t = hop_there hops k i h in cc

  hop_read : (i : ℕ) (hop : Hop) → i < passed hops k → Some hop ≡ hop_at hops i → hop ≡ get_or hops i no_hop
  hop_read i hop h e = let t = hop_there hops k i h in cc

  pub passes_on : (start mid new : Ride S) (i : ℕ) (hop : Hop) → i < passed hops k → Some hop ≡ hop_at hops i → Passing start mid i
      → pass_hop f (room_for mid) k i hop (stage_of mid) ≡ on (stage_of new) → Carried mid new → Passing start new (i + 1)
  passes_on start mid new i hop h e c t p =
      comes_on (λ c. pass_hops f c hops k (stage_of start)) (λ c i. pass_hop f c k i (get_or hops i no_hop)) (λ c i. refl) start mid new i c
      (subst (λ (z : Hop). pass_hop f (room_for mid) k i z (stage_of mid) ≡ on (stage_of new)) (hop_read i hop h e) t) p

  pub passing_ends : (start mid new : Ride S) (i : ℕ) (hop : Hop) (q : Full) (o : Result (Unit {0}) Full) → i < passed hops k → Some hop ≡ hop_at hops i → Passing start mid i
      → pass_hop f (room_for mid) k i hop (stage_of mid) ≡ ended q (stage_of new) → o ≡ Err q → pass_hops f (room_for start) hops k (stage_of start) (passed hops k) ≡ ran o (stage_of new)
  passing_ends start mid new i hop q o h e c t =
      ends (λ c. pass_hops f c hops k (stage_of start)) (λ c i. pass_hop f c k i (get_or hops i no_hop)) (λ c i. refl) start mid new q o i (passed hops k) h c
      (subst (λ (z : Hop). pass_hop f (room_for mid) k i z (stage_of mid) ≡ ended q (stage_of new)) (hop_read i hop h e) t)

-- The rounds of a scan.
module _ {S : Type 0} (f : FareModel S) (hops : List Hop) (paths : List Footpath) where
  -- the rounds before k are done
  abbrev pub Done : Ride S → Ride S → ℕ → Type 0
  Done start = Came (λ c. rounds f c hops paths (stage_of start)) (λ c. round f c hops paths) (λ c i. refl) start

  -- the origin is written before them
  pub scan_from : (old now : Store S) (aboard : Filled (Passenger S)) (origin : Label S) (o : Result (Unit {0}) Full) (limit : ℕ) (r : Run (Stage S)) → labels_of old ≡ [] → aboard.used ≡ 0
      → offer f (room_of old) origin (labels_of old) ≡ ran o (labels_of now) → Extended old now → and_then (ran o (stage 0 now aboard)) (λ s. rounds f (room now aboard) hops paths s (limit + 1)) ≡ r
      → scan f (room old aboard) hops paths origin aboard.places.now limit ≡ r
  scan_from old now aboard origin o limit r empty nobody t k u =
      let start : stage 0 old aboard ≡ blank aboard.places.now = λ v. record { trip = 0; aboard = take (nobody v) aboard.places.now; places = aboard.places.now; store = empty v } in
      (λ v. and_then (within (with_store (sym start v)) (offer f (room_of old) origin (sym start v).store)) (λ s. rounds f (room old aboard) hops paths s (sym (add-one limit) v)))
      ∙ ap (λ b. and_then (within (with_store (stage 0 old aboard)) b) (λ s. rounds f (room old aboard) hops paths s (limit + 1))) t
      ∙ (λ v. and_then (in_labels 0 old now aboard o v) (λ s. rounds f (record { labels = sym k.room v; aboard = length aboard.places.now }) hops paths s (limit + 1))) ∙ u
