-- A scan that finds the store full has more labels in the endless one; the hop at which it finds the list of those aboard full
-- is the first at which the endless one has more aboard.
use Rattle.std.proofs.Common.{◌≡◌, ℕ, zero, suc, ◌+◌, ◌-◌, ◌<◌, ◌≤◌, Bool, true, false, cond, eqb, ltb, List, [], ◌∷◌, ◌++◌, map, length, sym, refl, ap, subst, inl, inr, arith}
use Rattle.std.proofs.lemmas.Bool.{cond_both}
use Rattle.timetable.specs.declared.hops.Hop.{Hop}
use Rattle.timetable.specs.Table.{count_of}
use Rattle.journeys.specs.declared.full.Full.{Full}
use Rattle.journeys.specs.declared.full.Full.TheVariants.{Store, Aboard}
use Rattle.journeys.specs.declared.label.Label.{Label}
use Rattle.journeys.specs.declared.label.Passenger.{Passenger}
use Rattle.journeys.specs.Endless.{Pass, pass∞, walks∞, first∞, scan∞, board∞, kept∞, crowd∞, pass_crowd∞, most_aboard∞}
use Rattle.journeys.specs.Journey.{Setup, hop_in}
use Rattle.journeys.specs.Labels.{covers, label_by_walk, label_by_ride, passenger, rides_on, fresh, boards}
use Rattle.journeys.specs.Lists.{foldi, any}
use Rattle.journeys.specs.Runs.{Run, on, ended, and_then, within, run_each, push}
use Rattle.journeys.specs.Scan.{Room, Stage, emptied, kept, with_aboard, with_store, offer, seat, walk, walk_on, walks, board, alight, boarding, alighting, riding, pass_hop, pass_hops, walking, round, rounds, blank, scan}
use Rattle.journeys.proofs.Filled.{Throughout, all_each}
use Rattle.journeys.proofs.Grows.{hop_grown, pass_grown}
use Rattle.journeys.proofs.Tracks.{Tracks, Same, Beside, Along, tracks_offer, tracks_walks, tracks_boarding, walks_longer, kept_same, hop_beside, pass_beside, rounds_along, first_longer, grown_longer}

-- where a list is full that ends the run, it is this one
abbrev pub FullIs : {X : Type 0} → Full → Run X → Type 0
FullIs full r = Throughout (λ _. Unit {0}) (λ q _. q ≡ full) r

-- this list has ended the run
abbrev pub EndedBy : {X : Type 0} → Full → Run X → Type 0
EndedBy full (on x) = ⊥
EndedBy full (ended q x) = q ≡ full

then_ended : {X : Type 0} (full : Full) (r : Run X) (f : X → Run X) → EndedBy full r → EndedBy full (and_then r f)
then_ended full (on x) f e = absurd e
then_ended full (ended q x) f e = e

push_full : {A : Type 0} (test : A → Bool) (room : ℕ) (full : Full) (x : A) (xs : List A) → FullIs full (push test room full x xs)
push_full test room full x xs = cond_both (any test xs) (on xs) (cond (ltb (length xs) room) (on (xs ++ (x ∷ []))) (ended full xs)) (FullIs full) (λ _. tt)
    (λ _. cond_both (ltb (length xs) room) (on (xs ++ (x ∷ []))) (ended full xs) (FullIs full) (λ _. tt) (λ _. refl))

module _ {S : Type 0} (w : Setup S) (room : Room) where
  walks_full : (k : ℕ) (ls : List (Label S)) → FullIs Store (walks w.fare room.labels w.paths k ls)
  walks_full k ls = all_each (λ _. Unit {0}) (λ q _. q ≡ Store) (walk_on w.fare room.labels w.paths k)
      (λ j l xs _. cond_both (fresh k l) (run_each (walk w.fare room.labels j l) 0 w.paths xs) (on xs) (FullIs Store)
      (λ _. all_each (λ _. Unit {0}) (λ q _. q ≡ Store) (walk w.fare room.labels j l)
      (λ i p ys _. cond_both (eqb p.from l.stop) (offer w.fare room.labels (label_by_walk j l i p) ys) (on ys) (FullIs Store) (λ _. push_full (λ x. covers w.fare x (label_by_walk j l i p)) room.labels Store (label_by_walk j l i p) ys) (λ _. tt)) 0 w.paths xs tt)
      (λ _. tt)) 0 ls ls tt

  alight_full : (k i : ℕ) (h : Hop) (ps : List (Passenger S)) (ls : List (Label S)) → FullIs Store (run_each (alight w.fare room.labels k i h) 0 ps ls)
  alight_full k i h ps ls = all_each (λ _. Unit {0}) (λ q _. q ≡ Store) (alight w.fare room.labels k i h)
      (λ n e ys _. push_full (λ x. covers w.fare x (label_by_ride k i h e)) room.labels Store (label_by_ride k i h e) ys) 0 ps ls tt

  board_full : (k i : ℕ) (h : Hop) (ls : List (Label S)) (ps : List (Passenger S)) → FullIs (Aboard i) (run_each (board w.fare room.aboard k i h) 0 ls ps)
  board_full k i h ls ps = all_each (λ _. Unit {0}) (λ q _. q ≡ Aboard i) (board w.fare room.aboard k i h)
      (λ j l ys _. cond_both (boards k h l) (seat w.fare room.aboard i (passenger w.fare i j l) ys) (on ys) (FullIs (Aboard i)) (λ _. push_full (λ x. w.fare.covers x.state (passenger w.fare i j l).state) room.aboard (Aboard i) (passenger w.fare i j l) ys) (λ _. tt)) 0 ls ps tt

  -- the hop at place i, which n would board: its passengers end it where they have no room, and else only its labels can
  abbrev HopEnds : ℕ → ℕ → Run (Stage S) → Type 0
  HopEnds i n (on t) = Unit {0}
  HopEnds i n (ended Store t) = n ≤ room.aboard
  HopEnds i n (ended (Aboard j) t) = (j ≡ i) × (room.aboard < n)

  by_store : (i n : ℕ) (q : Full) (t : Stage S) → q ≡ Store → n ≤ room.aboard → HopEnds i n (ended q t)
  by_store i n q t e h = subst (λ (p : Full). HopEnds i n (ended p t)) (sym e) h

  by_aboard : (i n : ℕ) (q : Full) (t : Stage S) → q ≡ Aboard i → room.aboard < n → HopEnds i n (ended q t)
  by_aboard i n q t e h = subst (λ (p : Full). HopEnds i n (ended p t)) (sym e) (refl, h)

  riding_ends : (k i : ℕ) (h : Hop) (s : Stage S) → length s.aboard ≤ room.aboard
      → HopEnds i (length (foldi (board∞ w k i h) 0 s.store s.aboard)) (and_then (boarding w.fare room k i h s) (λ t. alighting w.fare room k i h (with_aboard t (map (rides_on w.fare h) t.aboard))))
  riding_ends k i h s a = board_go (run_each (board w.fare room.aboard k i h) 0 s.store s.aboard) (tracks_boarding w room k i h s.store s.aboard a) (board_full k i h s.store s.aboard)
    where
      n : ℕ
      n = length (foldi (board∞ w k i h) 0 s.store s.aboard)

      alight_go : (t : Stage S) → n ≤ room.aboard → (r : Run (List (Label S))) → FullIs Store r → HopEnds i n (within (with_store t) r)
      alight_go t few (on ls) e = tt
      alight_go t few (ended q ls) e = by_store i n q (with_store t ls) e few

      board_go : (r : Run (List (Passenger S))) → Tracks room.aboard r (foldi (board∞ w k i h) 0 s.store s.aboard) → FullIs (Aboard i) r
          → HopEnds i n (and_then (within (with_aboard s) r) (λ t. alighting w.fare room k i h (with_aboard t (map (rides_on w.fare h) t.aboard))))
      board_go (on ps) t e =
          let u = with_aboard (with_aboard s ps) (map (rides_on w.fare h) ps) in
          alight_go u (omega (arith, t.1, ap length t.0)) (run_each (alight w.fare room.labels k i h) 0 (map (rides_on w.fare h) ps) s.store) (alight_full k i h (map (rides_on w.fare h) ps) s.store)
      board_go (ended q ps) t e = by_aboard i n q (with_aboard s ps) e t

  hop_ends : (k i : ℕ) (h : Hop) (s : Stage S) (p : Pass S) → Same w room s p → HopEnds i (crowd∞ w k i h p) (pass_hop w.fare room k i h s)
  unfolding pass_hop
  hop_ends k i h s p m = go h.runs
    where
      g : ((kept h s).trip ≡ h.trip) × ((kept h s).aboard ≡ kept∞ w h p) × ((kept h s).store ≡ p.store) × (length (kept h s).aboard ≤ room.aboard) × (length (kept h s).store ≤ room.labels)
      g = kept_same w room h s p m

      c : length (foldi (board∞ w k i h) 0 (kept h s).store (kept h s).aboard) ≡ length (foldi (board∞ w k i h) 0 p.store (kept∞ w h p))
      c = λ v. length (foldi (board∞ w k i h) 0 (g.2 v) (g.1 v))

      go : (b : Bool) → HopEnds i (cond b (length (foldi (board∞ w k i h) 0 p.store (kept∞ w h p))) 0) (cond b (riding w.fare room k i h s) (on (emptied h.trip s)))
      go true = subst (λ (n : ℕ). HopEnds i n (riding w.fare room k i h s)) c (riding_ends k i h (kept h s) g.3)
      go false = tt

  -- in round k from these labels, the hop at place j is the first at which more would be aboard than have room
  pub record Crowded (k : ℕ) (ls : List (Label S)) (j : ℕ) : Type 0 where
    pub crowded : room.aboard < crowd∞ w k j (hop_in w j) (pass∞ w k ls j)
    pub hops_fit : pass_crowd∞ w k ls j ≤ room.aboard
    pub labels_fit : length (pass∞ w k ls j).store ≤ room.labels

  abbrev PassEnds : ℕ → List (Label S) → ℕ → Run (Stage S) → Type 0
  PassEnds k ls n (on t) = Unit {0}
  PassEnds k ls n (ended Store t) = room.labels < length (pass∞ w k ls n).store
  PassEnds k ls n (ended (Aboard j) t) = (j < n) × Crowded k ls j

  pass_ends : (k : ℕ) (s : Stage S) (ls : List (Label S)) → s.store ≡ ls → length s.store ≤ room.labels → (n : ℕ) → PassEnds k ls n (pass_hops w.fare room w.hops k s n)
  pass_ends k s ls e few zero = tt
  pass_ends k s ls e few (suc i) = go (pass_hops w.fare room w.hops k s i) (pass_beside w room k s ls e few i) (pass_ends k s ls e few i)
    where
      longer : length (pass∞ w k ls i).store ≤ length (pass∞ w k ls (suc i)).store
      longer = grown_longer _ _ _ (hop_grown w k i (hop_in w i) (pass∞ w k ls i))

      next : (r : Run (Stage S)) → HopEnds i (crowd∞ w k i (hop_in w i) (pass∞ w k ls i)) r → Beside w room r (pass∞ w k ls (suc i)) (crowd∞ w k i (hop_in w i) (pass∞ w k ls i))
          → pass_crowd∞ w k ls i ≤ room.aboard → length (pass∞ w k ls i).store ≤ room.labels → PassEnds k ls (suc i) r
      next (on t) x y a b = tt
      next (ended Store t) x (inl y) a b = y
      next (ended Store t) x (inr y) a b = absurd (omega (arith, x, y))
      next (ended (Aboard j) t) x y a b = subst (λ (m : ℕ). (m < suc i) × Crowded k ls m) (sym x.0) (omega arith, record { crowded = x.1; hops_fit = a; labels_fit = b })

      go : (r : Run (Stage S)) → Beside w room r (pass∞ w k ls i) (pass_crowd∞ w k ls i) → PassEnds k ls i r → PassEnds k ls (suc i) (and_then r (pass_hop w.fare room k i (hop_in w i)))
      go (on t) b x = next (pass_hop w.fare room k i (hop_in w i) t) (hop_ends k i (hop_in w i) t (pass∞ w k ls i) b.0) (hop_beside w room k i (hop_in w i) t (pass∞ w k ls i) b.0)
          b.1 (subst (λ l. length l ≤ room.labels) b.0.store b.0.store_fits)
      go (ended Store t) b x = omega (arith, x, longer)
      go (ended (Aboard j) t) b x = (omega (arith, x.0), x.1)

  pass_crowded : (k : ℕ) (s : Stage S) (ls : List (Label S)) → s.store ≡ ls → length s.store ≤ room.labels → (j : ℕ) → Crowded k ls j → EndedBy (Aboard j) (pass_hops w.fare room w.hops k s (suc j))
  pass_crowded k s ls e few j c = go (pass_hops w.fare room w.hops k s j) (pass_beside w room k s ls e few j)
    where
      next : (r : Run (Stage S)) → Beside w room r (pass∞ w k ls (suc j)) (crowd∞ w k j (hop_in w j) (pass∞ w k ls j)) → HopEnds j (crowd∞ w k j (hop_in w j) (pass∞ w k ls j)) r → EndedBy (Aboard j) r
      next (on t) b x = absurd (omega (arith, b.1, c.crowded))
      next (ended Store t) b x = absurd (omega (arith, x, c.crowded))
      next (ended (Aboard i) t) b x = ap Aboard x.0

      go : (r : Run (Stage S)) → Beside w room r (pass∞ w k ls j) (pass_crowd∞ w k ls j) → EndedBy (Aboard j) (and_then r (pass_hop w.fare room k j (hop_in w j)))
      go (on t) b = next (pass_hop w.fare room k j (hop_in w j) t) (hop_beside w room k j (hop_in w j) t (pass∞ w k ls j) b.0) (hop_ends k j (hop_in w j) t (pass∞ w k ls j) b.0)
      go (ended q t) (inl x) = absurd (omega (arith, x, c.labels_fit))
      go (ended q t) (inr x) = absurd (omega (arith, x, c.hops_fit))

  more_hops : (full : Full) (k : ℕ) (s : Stage S) (j m : ℕ) → EndedBy full (pass_hops w.fare room w.hops k s j) → EndedBy full (pass_hops w.fare room w.hops k s (m + j))
  more_hops full k s j zero e = let z : j ≡ 0 + j = omega arith in subst (λ (i : ℕ). EndedBy full (pass_hops w.fare room w.hops k s i)) z e
  more_hops full k s j (suc m) e =
      let z : suc (m + j) ≡ suc m + j = omega arith in
      subst (λ (i : ℕ). EndedBy full (pass_hops w.fare room w.hops k s i)) z
      (then_ended full (pass_hops w.fare room w.hops k s (m + j)) (pass_hop w.fare room k (m + j) (hop_in w (m + j))) (more_hops full k s j m e))

  abbrev RoundEnds : ℕ → List (Label S) → Run (Stage S) → Type 0
  RoundEnds k ls (on t) = Unit {0}
  RoundEnds k ls (ended Store t) = room.labels < length (walks∞ w (suc k) (pass∞ w (suc k) ls (count_of w.hops)).store)
  RoundEnds k ls (ended (Aboard j) t) = (j < count_of w.hops) × Crowded (suc k) ls j

  round_ends : (k : ℕ) (s : Stage S) (ls : List (Label S)) → s.store ≡ ls → length s.store ≤ room.labels → RoundEnds k ls (round w.fare room w.hops w.paths (suc k) s)
  round_ends k s ls e few = go (pass_hops w.fare room w.hops (suc k) s (count_of w.hops)) (pass_beside w room (suc k) s ls e few (count_of w.hops)) (pass_ends (suc k) s ls e few (count_of w.hops))
    where
      full : List (Label S)
      full = (pass∞ w (suc k) ls (count_of w.hops)).store

      next : (t : Stage S) → t.store ≡ full → (r : Run (List (Label S))) → FullIs Store r → Tracks room.labels r (walks∞ w (suc k) t.store) → RoundEnds k ls (within (with_store t) r)
      next t is (on xs) x y = tt
      next t is (ended q xs) x y = subst (λ (p : Full). RoundEnds k ls (ended p (with_store t xs))) (sym x) (subst (λ l. room.labels < length (walks∞ w (suc k) l)) is y)

      go : (r : Run (Stage S)) → Beside w room r (pass∞ w (suc k) ls (count_of w.hops)) (pass_crowd∞ w (suc k) ls (count_of w.hops)) → PassEnds (suc k) ls (count_of w.hops) r → RoundEnds k ls (and_then r (walking w.fare room w.hops w.paths (suc k)))
      go (on t) b x = next t b.0.store (walks w.fare room.labels w.paths (suc k) t.store) (walks_full (suc k) t.store) (tracks_walks w room (suc k) t.store b.0.store_fits)
      go (ended Store t) b x = omega (arith, x, walks_longer w room (suc k) full)
      go (ended (Aboard j) t) b x = x

  -- in some round of the first n, the hop at place j is the first of the scan at which more would be aboard than have room
  pub record CrowdedIn (n j : ℕ) : Type 0 where
    pub round : ℕ
    pub within : round < n
    pub is : j < count_of w.hops
    pub first : Crowded (suc round) (scan∞ w round) j
    pub rounds_fit : most_aboard∞ w round ≤ room.aboard

  abbrev pub ScanEnds : ℕ → Run (Stage S) → Type 0
  ScanEnds n (on t) = Unit {0}
  ScanEnds n (ended Store t) = room.labels < length (scan∞ w n)
  ScanEnds n (ended (Aboard j) t) = CrowdedIn n j

  module _ (counted : count_of w.hops ≡ length w.hops) (s : Stage S) (e : s.store ≡ first∞ w ∷ []) (few : length s.store ≤ room.labels) where
    rounds_end : (n : ℕ) → ScanEnds n (rounds w.fare room w.hops w.paths s (suc n))
    rounds_end zero = at_first (walks w.fare room.labels w.paths 0 s.store) (walks_full 0 s.store) (tracks_walks w room 0 s.store few)
      where
        at_first : (r : Run (List (Label S))) → FullIs Store r → Tracks room.labels r (walks∞ w 0 s.store) → ScanEnds 0 (within (with_store (emptied 0 s)) r)
        at_first (on xs) x y = tt
        at_first (ended q xs) x y = subst (λ (p : Full). ScanEnds 0 (ended p (with_store (emptied 0 s) xs))) (sym x) (subst (λ l. room.labels < length (walks∞ w 0 l)) e y)
    rounds_end (suc n) = go (rounds w.fare room w.hops w.paths s (suc n)) (rounds_along w room counted s e few n) (rounds_end n)
      where
        longer : length (scan∞ w n) ≤ length (scan∞ w (suc n))
        longer = omega (arith, grown_longer _ _ _ (pass_grown w (suc n) (scan∞ w n) (length w.hops)), walks_longer w room (suc n) (pass∞ w (suc n) (scan∞ w n) (length w.hops)).store)

        next : (r : Run (Stage S)) → RoundEnds n (scan∞ w n) r → most_aboard∞ w n ≤ room.aboard → ScanEnds (suc n) r
        next (on t) x a = tt
        next (ended Store t) x a = subst (λ (m : ℕ). room.labels < length (walks∞ w (suc n) (pass∞ w (suc n) (scan∞ w n) m).store)) counted x
        next (ended (Aboard j) t) x a = record { round = n; within = omega arith; is = x.0; first = x.1; rounds_fit = a }

        go : (r : Run (Stage S)) → Along w room r (scan∞ w n) (most_aboard∞ w n) → ScanEnds n r → ScanEnds (suc n) (and_then r (round w.fare room w.hops w.paths (suc n)))
        go (on t) a x = next (round w.fare room w.hops w.paths (suc n) t) (round_ends n t (scan∞ w n) a.0 a.1) a.2
        go (ended Store t) a x = omega (arith, x, longer)
        go (ended (Aboard j) t) a x = record { round = x.round; within = omega (arith, x.within); is = x.is; first = x.first; rounds_fit = x.rounds_fit }

    round_crowded : (n : ℕ) (j : ℕ) → (c : CrowdedIn n j) → EndedBy (Aboard j) (rounds w.fare room w.hops w.paths s (suc (suc c.round)))
    round_crowded n j c = go (rounds w.fare room w.hops w.paths s (suc c.round)) (rounds_along w room counted s e few c.round)
      where
        longer : length (scan∞ w c.round) ≤ length (pass∞ w (suc c.round) (scan∞ w c.round) j).store
        longer = grown_longer _ _ _ (pass_grown w (suc c.round) (scan∞ w c.round) j)

        go : (r : Run (Stage S)) → Along w room r (scan∞ w c.round) (most_aboard∞ w c.round) → EndedBy (Aboard j) (and_then r (round w.fare room w.hops w.paths (suc c.round)))
        go (on t) a =
            let p : EndedBy (Aboard j) (pass_hops w.fare room w.hops (suc c.round) t (suc j)) = pass_crowded (suc c.round) t (scan∞ w c.round) a.0 a.1 j c.first in
            let m = count_of w.hops - suc j in
            let all : m + suc j ≡ count_of w.hops = omega (arith, c.is) in
            then_ended (Aboard j) (pass_hops w.fare room w.hops (suc c.round) t (count_of w.hops)) (walking w.fare room w.hops w.paths (suc c.round))
            (subst (λ (i : ℕ). EndedBy (Aboard j) (pass_hops w.fare room w.hops (suc c.round) t i)) all (more_hops (Aboard j) (suc c.round) t (suc j) m p))
        go (ended q t) (inl x) = absurd (omega (arith, x, longer, c.first.labels_fit))
        go (ended q t) (inr x) = absurd (omega (arith, x, c.rounds_fit))

    more_rounds : (full : Full) (k m : ℕ) → EndedBy full (rounds w.fare room w.hops w.paths s k) → EndedBy full (rounds w.fare room w.hops w.paths s (m + k))
    more_rounds full k zero x = let z : k ≡ 0 + k = omega arith in subst (λ (i : ℕ). EndedBy full (rounds w.fare room w.hops w.paths s i)) z x
    more_rounds full k (suc m) x =
        let z : suc (m + k) ≡ suc m + k = omega arith in
        subst (λ (i : ℕ). EndedBy full (rounds w.fare room w.hops w.paths s i)) z
        (then_ended full (rounds w.fare room w.hops w.paths s (m + k)) (round w.fare room w.hops w.paths (m + k)) (more_rounds full k m x))

    rounds_crowded : (n j : ℕ) → CrowdedIn n j → EndedBy (Aboard j) (rounds w.fare room w.hops w.paths s (suc n))
    rounds_crowded n j c =
        let m = n - suc c.round in
        let all : m + suc (suc c.round) ≡ suc n = omega (arith, c.within) in
        subst (λ (i : ℕ). EndedBy (Aboard j) (rounds w.fare room w.hops w.paths s i)) all (more_rounds (Aboard j) (suc (suc c.round)) m (round_crowded n j c))

  -- the whole scan
  module _ (counted : count_of w.hops ≡ length w.hops) (held : List (Passenger S)) where
    pub scan_ends : (limit : ℕ) → ScanEnds limit (scan w.fare room w.hops w.paths (first∞ w) held limit)
    scan_ends limit = go (offer w.fare room.labels (first∞ w) []) (tracks_offer w room (first∞ w) [] (omega arith)) (push_full (λ l. covers w.fare l (first∞ w)) room.labels Store (first∞ w) [])
      where
        go : (r : Run (List (Label S))) → Tracks room.labels r (first∞ w ∷ []) → FullIs Store r → ScanEnds limit (and_then (within (with_store (blank held)) r) (λ s. rounds w.fare room w.hops w.paths s (suc limit)))
        go (on ls) t x = rounds_end counted (with_store (blank held) ls) t.0 t.1 limit
        go (ended q ls) t x = subst (λ (p : Full). ScanEnds limit (ended p (with_store (blank held) ls))) (sym x) (omega (arith, t, first_longer w room limit))

    pub scan_crowded : (limit j : ℕ) → CrowdedIn limit j → EndedBy (Aboard j) (scan w.fare room w.hops w.paths (first∞ w) held limit)
    scan_crowded limit j c = go (offer w.fare room.labels (first∞ w) []) (tracks_offer w room (first∞ w) [] (omega arith))
      where
        some : 1 ≤ length (pass∞ w (suc c.round) (scan∞ w c.round) j).store
        some = omega (arith, first_longer w room c.round, grown_longer _ _ _ (pass_grown w (suc c.round) (scan∞ w c.round) j))

        go : (r : Run (List (Label S))) → Tracks room.labels r (first∞ w ∷ []) → EndedBy (Aboard j) (and_then (within (with_store (blank held)) r) (λ s. rounds w.fare room w.hops w.paths s (suc limit)))
        go (on ls) t = rounds_crowded counted (with_store (blank held) ls) t.0 t.1 limit j c
        go (ended q ls) t = absurd (omega (arith, t, some, c.first.labels_fit))
