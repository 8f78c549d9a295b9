-- The store never holds more labels than there is room for, and a scan that it ends has filled it.
use Rattle.std.proofs.Common.{◌≡◌, ℕ, zero, suc, ◌≤◌, Bool, cond, eqb, ltb, List, [], ◌∷◌, ◌++◌, map, length, get_or, refl, arith, length-append}
use Rattle.std.proofs.lemmas.Bool.{cond_both, ltb-true, ltb-false}
use Rattle.timetable.specs.declared.hops.Hop.{Hop}
use Rattle.journeys.specs.declared.full.Full.{Full}
use Rattle.journeys.specs.declared.full.Full.TheVariants.{Store, Aboard}
use Rattle.journeys.specs.declared.label.Label.{Label}
use Rattle.journeys.specs.declared.label.Passenger.{Passenger}
use Rattle.journeys.specs.declared.network.Footpath.{Footpath}
use Rattle.journeys.specs.Fare.{FareModel}
use Rattle.journeys.specs.Labels.{covers, label_by_walk, label_by_ride, passenger, rides_on, fresh, boards}
use Rattle.journeys.specs.Lists.{any}
use Rattle.journeys.specs.Runs.{Run, on, ended, and_then, within, run_each, push}
use Rattle.journeys.specs.Scan.{Room, Stage, emptied, kept, with_aboard, with_store, no_hop, offer, seat, walk, walk_on, walks, board, alight, boarding, alighting, riding, pass_hop, pass_hops, passed, walking, round, rounds, blank, scan}

-- P of what a run has come to, and Q where a list was full
abbrev pub Throughout : {X : Type 0} → (X → Type 0) → (Full → X → Type 0) → Run X → Type 0
Throughout P Q (on x) = P x
Throughout P Q (ended q x) = Q q x

pub all_then : {X : Type 0} (P R : X → Type 0) (Q : Full → X → Type 0) (r : Run X) (f : X → Run X) → Throughout P Q r → ((x : X) → P x → Throughout R Q (f x)) → Throughout R Q (and_then r f)
all_then P R Q (on x) f p h = h x p
all_then P R Q (ended q x) f p h = p

pub all_each : {A X : Type 0} (P : X → Type 0) (Q : Full → X → Type 0) (f : ℕ → A → X → Run X) → ((i : ℕ) (a : A) (x : X) → P x → Throughout P Q (f i a x)) → (i : ℕ) (xs : List A) (x : X) → P x → Throughout P Q (run_each f i xs x)
all_each P Q f h i [] x p = p
all_each P Q f h i (a ∷ xs) x p = all_then P P Q (f i a x) (run_each f (suc i) xs) (h i a x p) (all_each P Q f h (suc i) xs)

pub all_within : {X Y : Type 0} (P : X → Type 0) (Q : Full → X → Type 0) (R : Y → Type 0) (T : Full → Y → Type 0) (g : X → Y) (r : Run X) → Throughout P Q r → ((x : X) → P x → R (g x)) → ((q : Full) (x : X) → Q q x → T q (g x)) → Throughout R T (within g r)
all_within P Q R T g (on x) p a b = a x p
all_within P Q R T g (ended q x) p a b = b q x p

-- at most so many; and, where the run was ended, just so many, by the list that ended it
module _ {A : Type 0} (room : ℕ) (full : Full) where
  abbrev pub Few : List A → Type 0
  Few xs = length xs ≤ room

  abbrev pub Filled : Full → List A → Type 0
  Filled q xs = (q ≡ full) × (length xs ≡ room)

  pub push_filled : (test : A → Bool) (x : A) (xs : List A) → Few xs → Throughout Few Filled (push test room full x xs)
  push_filled test x xs h = cond_both (any test xs) (on xs) (cond (ltb (length xs) room) (on (xs ++ (x ∷ []))) (ended full xs)) (Throughout Few Filled) (λ _. h)
      (λ _. cond_both (ltb (length xs) room) (on (xs ++ (x ∷ []))) (ended full xs) (Throughout Few Filled) (λ t. simp length-append (omega (arith, ltb-true (length xs) room t))) (λ t. (refl, omega (arith, ltb-false (length xs) room t))))

module _ {S : Type 0} (f : FareModel S) (room : Room) where
  abbrev Held : List (Label S) → Type 0
  Held = Few room.labels Store

  abbrev HeldFull : Full → List (Label S) → Type 0
  HeldFull = Filled room.labels Store

  -- the store of a stage
  abbrev pub StoreFew : Stage S → Type 0
  StoreFew s = length s.store ≤ room.labels

  -- where the store ended the scan, it is full
  abbrev pub StoreFilled : Full → Stage S → Type 0
  StoreFilled q s = (length s.store ≤ room.labels) × (q ≡ Store → length s.store ≡ room.labels)

  abbrev Sound : Run (Stage S) → Type 0
  Sound = Throughout StoreFew StoreFilled

  walks_filled : (paths : List Footpath) (k : ℕ) (ls : List (Label S)) → Held ls → Throughout Held HeldFull (walks f room.labels paths k ls)
  walks_filled paths k ls h = all_each Held HeldFull (walk_on f room.labels paths k)
      (λ j l xs p. cond_both (fresh k l) (run_each (walk f room.labels j l) 0 paths xs) (on xs) (Throughout Held HeldFull)
      (λ _. all_each Held HeldFull (walk f room.labels j l) (λ i q ys r. cond_both (eqb q.from l.stop) (offer f room.labels (label_by_walk j l i q) ys) (on ys) (Throughout Held HeldFull) (λ _. push_filled room.labels Store (λ x. covers f x (label_by_walk j l i q)) (label_by_walk j l i q) ys r) (λ _. r)) 0 paths xs p)
      (λ _. p)) 0 ls ls h

  store_within : (s : Stage S) (r : Run (List (Label S))) → Throughout Held HeldFull r → Sound (within (with_store s) r)
  store_within s r t = all_within Held HeldFull StoreFew StoreFilled (with_store s) r t (λ x p. p) (λ q x p. (omega (arith, p.1), λ _. p.1))

  walking_filled : (hops : List Hop) (paths : List Footpath) (k : ℕ) (s : Stage S) → StoreFew s → Sound (walking f room hops paths k s)
  walking_filled hops paths k s h = store_within s (walks f room.labels paths k s.store) (walks_filled paths k s.store h)

  alighting_filled : (k i : ℕ) (h : Hop) (s : Stage S) → StoreFew s → Sound (alighting f room k i h s)
  alighting_filled k i h s p = store_within s (run_each (alight f room.labels k i h) 0 s.aboard s.store)
      (all_each Held HeldFull (alight f room.labels k i h) (λ n e ls r. push_filled room.labels Store (λ x. covers f x (label_by_ride k i h e)) (label_by_ride k i h e) ls r) 0 s.aboard s.store p)

  -- those aboard never fill the store
  boarding_filled : (k i : ℕ) (h : Hop) (s : Stage S) → StoreFew s → Sound (boarding f room k i h s)
  boarding_filled k i h s p = all_within (λ _. Unit {0}) (λ q _. q ≡ Aboard i) StoreFew StoreFilled (with_aboard s) (run_each (board f room.aboard k i h) 0 s.store s.aboard)
      (all_each (λ _. Unit {0}) (λ q _. q ≡ Aboard i) (board f room.aboard k i h)
      (λ j l ps _. cond_both (boards k h l) (seat f room.aboard i (passenger f i j l) ps) (on ps) (Throughout (λ _. Unit {0}) (λ q _. q ≡ Aboard i)) (λ _. seated (passenger f i j l) ps) (λ _. tt)) 0 s.store s.aboard tt)
      (λ x _. p) (λ q x e. (p, λ z. absurd (let y : ◌≡◌ {A = ℕ} 0 1 = cc in omega arith)))
    where
      seated : (e : Passenger S) (ps : List (Passenger S)) → Throughout (λ _. Unit {0}) (λ q _. q ≡ Aboard i) (seat f room.aboard i e ps)
      seated e ps = cond_both (any (λ q. f.covers q.state e.state) ps) (on ps) (cond (ltb (length ps) room.aboard) (on (ps ++ (e ∷ []))) (ended (Aboard i) ps)) (Throughout (λ _. Unit {0}) (λ q _. q ≡ Aboard i)) (λ _. tt)
          (λ _. cond_both (ltb (length ps) room.aboard) (on (ps ++ (e ∷ []))) (ended (Aboard i) ps) (Throughout (λ _. Unit {0}) (λ q _. q ≡ Aboard i)) (λ _. tt) (λ _. refl))

  hop_filled : (k i : ℕ) (h : Hop) (s : Stage S) → StoreFew s → Sound (pass_hop f room k i h s)
  unfolding pass_hop
  hop_filled k i h s p = cond_both h.runs (riding f room k i h s) (on (emptied h.trip s)) Sound
      (λ _. all_then StoreFew StoreFew StoreFilled (boarding f room k i h (kept h s)) (λ t. alighting f room k i h (with_aboard t (map (rides_on f h) t.aboard))) (boarding_filled k i h (kept h s) (cond_both (eqb s.trip h.trip) s (emptied h.trip s) StoreFew (λ _. p) (λ _. p)))
      (λ t r. alighting_filled k i h (with_aboard t (map (rides_on f h) t.aboard)) r))
      (λ _. p)

  hops_filled : (hops : List Hop) (k : ℕ) (s : Stage S) → StoreFew s → (n : ℕ) → Sound (pass_hops f room hops k s n)
  hops_filled hops k s p zero = p
  hops_filled hops k s p (suc n) = all_then StoreFew StoreFew StoreFilled (pass_hops f room hops k s n) (pass_hop f room k n (get_or hops n no_hop)) (hops_filled hops k s p n) (hop_filled k n (get_or hops n no_hop))

  rounds_filled : (hops : List Hop) (paths : List Footpath) (s : Stage S) → StoreFew s → (n : ℕ) → Sound (rounds f room hops paths s n)
  rounds_filled hops paths s p zero = p
  rounds_filled hops paths s p (suc n) = all_then StoreFew StoreFew StoreFilled (rounds f room hops paths s n) (round f room hops paths n) (rounds_filled hops paths s p n)
      (λ t r. all_then StoreFew StoreFew StoreFilled (pass_hops f room hops n t (passed hops n)) (walking f room hops paths n) (hops_filled hops n t r (passed hops n)) (walking_filled hops paths n))

  pub scan_filled : (hops : List Hop) (paths : List Footpath) (origin : Label S) (held : List (Passenger S)) (limit : ℕ) → Throughout StoreFew StoreFilled (scan f room hops paths origin held limit)
  scan_filled hops paths origin held limit = all_then StoreFew StoreFew StoreFilled (within (with_store (blank held)) (offer f room.labels origin [])) (λ s. rounds f room hops paths s (suc limit))
      (store_within (blank held) (offer f room.labels origin []) (push_filled room.labels Store (λ l. covers f l origin) origin [] (omega arith)))
      (λ s r. rounds_filled hops paths s r (suc limit))
