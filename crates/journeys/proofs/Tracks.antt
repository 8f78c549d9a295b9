-- The scan with room beside the endless one: it holds the same as long as there is room, and where it is ended the endless one needs more.
use Rattle.std.proofs.Common.{◌≡◌, ℕ, zero, suc, ◌<◌, ◌≤◌, max, Bool, true, false, cond, eqb, ltb, ◌⊎◌, List, [], ◌∷◌, ◌++◌, map, length, sym, refl, ap, ◌∙◌, subst, inl, inr, arith, length-append}
use lib.ListN.{length-map}
use Rattle.std.proofs.lemmas.Bool.{cond-true, cond-false, cases_Bool, eqb-true, ltb-true, ltb-false}
use Rattle.timetable.specs.declared.hops.Hop.{Hop}
use Rattle.timetable.specs.Table.{count_of}
use Rattle.journeys.specs.declared.full.Full.{Full}
use Rattle.journeys.specs.declared.full.Full.TheVariants.{Store, Aboard}
use Rattle.journeys.specs.declared.label.Label.{Label}
use Rattle.journeys.specs.declared.label.Passenger.{Passenger}
use Rattle.journeys.specs.declared.network.Footpath.{Footpath}
use Rattle.journeys.specs.Endless.{Pass, offer∞, walk∞, walk_on∞, walks∞, seat∞, board∞, alight∞, kept∞, carried∞, hop∞, pass∞, first∞, scan∞, crowd∞, pass_crowd∞, most_aboard∞}
use Rattle.journeys.specs.Journey.{Setup, hop_in}
use Rattle.journeys.specs.Labels.{covers, label_by_walk, label_by_ride, passenger, rides_on, fresh, boards}
use Rattle.journeys.specs.Lists.{foldi, any}
use Rattle.journeys.specs.Runs.{Run, on, ended, and_then, within, run_each, push}
use Rattle.journeys.specs.Scan.{Room, Stage, emptied, kept, with_aboard, with_store, offer, seat, walk, walk_on, walks, board, alight, boarding, alighting, riding, pass_hop, pass_hops, walking, round, rounds, blank, scan}
use Rattle.journeys.proofs.Grows.{hop_grown, pass_grown, foot_grown}
use Rattle.journeys.proofs.Lists.{Grown}

pub grown_longer : {A : Type 0} (P : A → Type 0) (xs ys : List A) → Grown P xs ys → length xs ≤ length ys
grown_longer P xs ys g = rw g.is (simp length-append (omega arith))

-- A run in places for so many holds what the endless one holds, or that needs more places.
abbrev pub Tracks : {A : Type 0} → ℕ → Run (List A) → List A → Type 0
Tracks room (on ys) all = (ys ≡ all) × (length ys ≤ room)
Tracks room (ended q ys) all = room < length all

-- one element more
tracks_push : {A : Type 0} (test : A → Bool) (room : ℕ) (q : Full) (x : A) (xs : List A) → length xs ≤ room → Tracks room (push test room q x xs) (cond (any test xs) xs (xs ++ (x ∷ [])))
tracks_push test room q x xs h = go (any test xs) (ltb (length xs) room) refl
  where
    go : (a b : Bool) → ltb (length xs) room ≡ b → Tracks room (cond a (on xs) (cond b (on (xs ++ (x ∷ []))) (ended q xs))) (cond a xs (xs ++ (x ∷ [])))
    go true b e = (refl, h)
    go false true e = (refl, simp length-append (omega (arith, ltb-true (length xs) room e)))
    go false false e = simp length-append (omega (arith, ltb-false (length xs) room e))

-- one by one
module _ {A B : Type 0} (room : ℕ) (f : ℕ → A → List B → Run (List B)) (f∞ : ℕ → A → List B → List B)
    (step : (i : ℕ) (a : A) (xs : List B) → length xs ≤ room → Tracks room (f i a xs) (f∞ i a xs)) (grows : (i : ℕ) (a : A) (xs : List B) → length xs ≤ length (f∞ i a xs)) where
  fold_grows : (i : ℕ) (items : List A) (xs : List B) → length xs ≤ length (foldi f∞ i items xs)
  fold_grows i [] xs = omega arith
  fold_grows i (a ∷ items) xs = omega (arith, grows i a xs, fold_grows (suc i) items (f∞ i a xs))

  pub tracks_each : (i : ℕ) (items : List A) (xs : List B) → length xs ≤ room → Tracks room (run_each f i items xs) (foldi f∞ i items xs)
  tracks_each i [] xs h = (refl, h)
  tracks_each i (a ∷ items) xs h = go (f i a xs) (step i a xs h) (tracks_each (suc i) items)
    where
      go : (r : Run (List B)) → Tracks room r (f∞ i a xs) → ((ys : List B) → length ys ≤ room → Tracks room (run_each f (suc i) items ys) (foldi f∞ (suc i) items ys)) → Tracks room (and_then r (run_each f (suc i) items)) (foldi f∞ (suc i) items (f∞ i a xs))
      go (on ys) t more = subst (λ l. Tracks room (run_each f (suc i) items ys) (foldi f∞ (suc i) items l)) t.0 (more ys t.1)
      go (ended q ys) t more = omega (arith, t, fold_grows (suc i) items (f∞ i a xs))

push_longer : {A : Type 0} (b : Bool) (xs : List A) (x : A) → length xs ≤ length (cond b xs (xs ++ (x ∷ [])))
push_longer true xs x = omega arith
push_longer false xs x = simp length-append (omega arith)

module _ {S : Type 0} (w : Setup S) (room : Room) where
  -- candidates offered to the store
  pub tracks_offer : (c : Label S) (ls : List (Label S)) → length ls ≤ room.labels → Tracks room.labels (offer w.fare room.labels c ls) (offer∞ w c ls)
  tracks_offer c ls h = tracks_push (λ l. covers w.fare l c) room.labels Store c ls h

  offer_longer : (c : Label S) (ls : List (Label S)) → length ls ≤ length (offer∞ w c ls)
  offer_longer c ls = push_longer (any (λ l. covers w.fare l c) ls) ls c

  tracks_walk : (j : ℕ) (l : Label S) (i : ℕ) (p : Footpath) (ls : List (Label S)) → length ls ≤ room.labels → Tracks room.labels (walk w.fare room.labels j l i p ls) (walk∞ w j l i p ls)
  tracks_walk j l i p ls h = go (eqb p.from l.stop)
    where
      go : (b : Bool) → Tracks room.labels (cond b (offer w.fare room.labels (label_by_walk j l i p) ls) (on ls)) (cond b (offer∞ w (label_by_walk j l i p) ls) ls)
      go true = tracks_offer (label_by_walk j l i p) ls h
      go false = (refl, h)

  walk_longer : (j : ℕ) (l : Label S) (i : ℕ) (p : Footpath) (ls : List (Label S)) → length ls ≤ length (walk∞ w j l i p ls)
  walk_longer j l i p ls = go (eqb p.from l.stop)
    where
      go : (b : Bool) → length ls ≤ length (cond b (offer∞ w (label_by_walk j l i p) ls) ls)
      go true = offer_longer (label_by_walk j l i p) ls
      go false = omega arith

  tracks_walk_on : (k j : ℕ) (l : Label S) (ls : List (Label S)) → length ls ≤ room.labels → Tracks room.labels (walk_on w.fare room.labels w.paths k j l ls) (walk_on∞ w k j l ls)
  tracks_walk_on k j l ls h = go (fresh k l)
    where
      go : (b : Bool) → Tracks room.labels (cond b (run_each (walk w.fare room.labels j l) 0 w.paths ls) (on ls)) (cond b (foldi (walk∞ w j l) 0 w.paths ls) ls)
      go true = tracks_each room.labels (walk w.fare room.labels j l) (walk∞ w j l) (tracks_walk j l) (walk_longer j l) 0 w.paths ls h
      go false = (refl, h)

  walk_on_longer : (k j : ℕ) (l : Label S) (ls : List (Label S)) → length ls ≤ length (walk_on∞ w k j l ls)
  walk_on_longer k j l ls = go (fresh k l)
    where
      go : (b : Bool) → length ls ≤ length (cond b (foldi (walk∞ w j l) 0 w.paths ls) ls)
      go true = fold_grows room.labels (walk w.fare room.labels j l) (walk∞ w j l) (tracks_walk j l) (walk_longer j l) 0 w.paths ls
      go false = omega arith

  pub tracks_walks : (k : ℕ) (ls : List (Label S)) → length ls ≤ room.labels → Tracks room.labels (walks w.fare room.labels w.paths k ls) (walks∞ w k ls)
  unfolding walks∞
  tracks_walks k ls h = tracks_each room.labels (walk_on w.fare room.labels w.paths k) (walk_on∞ w k) (tracks_walk_on k) (walk_on_longer k) 0 ls ls h

  -- those who board
  tracks_board : (k i : ℕ) (h : Hop) (j : ℕ) (l : Label S) (ps : List (Passenger S)) → length ps ≤ room.aboard → Tracks room.aboard (board w.fare room.aboard k i h j l ps) (board∞ w k i h j l ps)
  tracks_board k i h j l ps n = go (boards k h l)
    where
      go : (b : Bool) → Tracks room.aboard (cond b (seat w.fare room.aboard i (passenger w.fare i j l) ps) (on ps)) (cond b (seat∞ w (passenger w.fare i j l) ps) ps)
      go true = tracks_push (λ q. w.fare.covers q.state (passenger w.fare i j l).state) room.aboard (Aboard i) (passenger w.fare i j l) ps n
      go false = (refl, n)

  board_longer : (k i : ℕ) (h : Hop) (j : ℕ) (l : Label S) (ps : List (Passenger S)) → length ps ≤ length (board∞ w k i h j l ps)
  board_longer k i h j l ps = go (boards k h l)
    where
      go : (b : Bool) → length ps ≤ length (cond b (seat∞ w (passenger w.fare i j l) ps) ps)
      go true = push_longer (any (λ q. w.fare.covers q.state (passenger w.fare i j l).state) ps) ps (passenger w.fare i j l)
      go false = omega arith

  pub tracks_boarding : (k i : ℕ) (h : Hop) (ls : List (Label S)) (ps : List (Passenger S)) → length ps ≤ room.aboard → Tracks room.aboard (run_each (board w.fare room.aboard k i h) 0 ls ps) (foldi (board∞ w k i h) 0 ls ps)
  tracks_boarding k i h ls ps n = tracks_each room.aboard (board w.fare room.aboard k i h) (board∞ w k i h) (tracks_board k i h) (board_longer k i h) 0 ls ps n

  tracks_alighting : (k i : ℕ) (h : Hop) (ps : List (Passenger S)) (ls : List (Label S)) → length ls ≤ room.labels → Tracks room.labels (run_each (alight w.fare room.labels k i h) 0 ps ls) (foldi (alight∞ w k i h) 0 ps ls)
  tracks_alighting k i h ps ls n = tracks_each room.labels (alight w.fare room.labels k i h) (alight∞ w k i h) (λ m p xs. tracks_offer (label_by_ride k i h p) xs) (λ m p xs. offer_longer (label_by_ride k i h p) xs) 0 ps ls n

  -- a stage holds what a pass holds, in its places
  pub record Same (s : Stage S) (p : Pass S) : Type 0 where
    pub trip : s.trip ≡ p.trip
    pub aboard : s.aboard ≡ p.aboard
    pub store : s.store ≡ p.store
    pub aboard_fits : length s.aboard ≤ room.aboard
    pub store_fits : length s.store ≤ room.labels

  -- the endless scan needs more labels, or has had more aboard
  abbrev pub Exceeds : List (Label S) → ℕ → Type 0
  Exceeds all crowd = (room.labels < length all) ⊎ (room.aboard < crowd)

  -- a round under way beside the endless one, which has had at most so many aboard
  abbrev pub Beside : Run (Stage S) → Pass S → ℕ → Type 0
  Beside (on s) p crowd = Same s p × (crowd ≤ room.aboard)
  Beside (ended q s) p crowd = Exceeds p.store crowd

  -- a hop that runs, from the same lists
  abbrev rides : (k i : ℕ) (h : Hop) (trip : ℕ) (ps : List (Passenger S)) (ls : List (Label S)) → Pass S
  rides k i h trip ps ls = record { trip = trip; aboard = map (rides_on w.fare h) (foldi (board∞ w k i h) 0 ls ps); store = foldi (alight∞ w k i h) 0 (map (rides_on w.fare h) (foldi (board∞ w k i h) 0 ls ps)) ls }

  riding_beside : (k i : ℕ) (h : Hop) (s : Stage S) → length s.aboard ≤ room.aboard → length s.store ≤ room.labels
      → Beside (and_then (boarding w.fare room k i h s) (λ t. alighting w.fare room k i h (with_aboard t (map (rides_on w.fare h) t.aboard)))) (rides k i h s.trip s.aboard s.store) (length (foldi (board∞ w k i h) 0 s.store s.aboard))
  riding_beside k i h s a b = board_go (run_each (board w.fare room.aboard k i h) 0 s.store s.aboard) (tracks_boarding k i h s.store s.aboard a)
    where
      alight_go : (ps : List (Passenger S)) → ps ≡ (foldi (board∞ w k i h) 0 s.store s.aboard) → length ps ≤ room.aboard → (r : Run (List (Label S))) → Tracks room.labels r (foldi (alight∞ w k i h) 0 (map (rides_on w.fare h) ps) s.store)
          → Beside (within (with_store (with_aboard (with_aboard s ps) (map (rides_on w.fare h) ps))) r) (rides k i h s.trip s.aboard s.store) (length (foldi (board∞ w k i h) 0 s.store s.aboard))
      alight_go ps e n (on ls) t = (
        record {
          trip = refl;
          aboard = ap (map (rides_on w.fare h)) e;
          store = t.0 ∙ ap (λ l. foldi (alight∞ w k i h) 0 (map (rides_on w.fare h) l) s.store) e;
          aboard_fits = simp length-map n;
          store_fits = t.1;
        },
        omega (arith, ap length e),
      )
      alight_go ps e n (ended q ls) t = inl (subst (λ l. room.labels < length (foldi (alight∞ w k i h) 0 (map (rides_on w.fare h) l) s.store)) e t)

      board_go : (r : Run (List (Passenger S))) → Tracks room.aboard r (foldi (board∞ w k i h) 0 s.store s.aboard)
          → Beside (and_then (within (with_aboard s) r) (λ t. alighting w.fare room k i h (with_aboard t (map (rides_on w.fare h) t.aboard)))) (rides k i h s.trip s.aboard s.store) (length (foldi (board∞ w k i h) 0 s.store s.aboard))
      board_go (on ps) t = alight_go ps t.0 t.1 (run_each (alight w.fare room.labels k i h) 0 (map (rides_on w.fare h) ps) s.store) (tracks_alighting k i h (map (rides_on w.fare h) ps) s.store b)
      board_go (ended q ps) t = inr t

  -- who stays for a hop
  pub kept_same : (h : Hop) (s : Stage S) (p : Pass S) → Same s p → ((kept h s).trip ≡ h.trip) × ((kept h s).aboard ≡ kept∞ w h p) × ((kept h s).store ≡ p.store) × (length (kept h s).aboard ≤ room.aboard) × (length (kept h s).store ≤ room.labels)
  kept_same h s p m = elim (cases_Bool (eqb s.trip h.trip)) [
    | inl e ↦ (let x : kept h s ≡ s = cond-true (eqb s.trip h.trip) s (emptied h.trip s) e in
        let y : eqb p.trip h.trip ≡ true = ap (λ (n : ℕ). eqb n h.trip) (sym m.trip) ∙ e in (
          ap (λ (d : Stage S). d.trip) x ∙ eqb-true _ _ e,
          ap (λ (d : Stage S). d.aboard) x ∙ m.aboard ∙ sym (cond-true (eqb p.trip h.trip) p.aboard [] y),
          ap (λ (d : Stage S). d.store) x ∙ m.store,
          subst (λ (d : Stage S). length d.aboard ≤ room.aboard) (sym x) m.aboard_fits,
          subst (λ (d : Stage S). length d.store ≤ room.labels) (sym x) m.store_fits,
        ))
    | inr e ↦ (let x : kept h s ≡ emptied h.trip s = cond-false (eqb s.trip h.trip) s (emptied h.trip s) e in
        let y : eqb p.trip h.trip ≡ false = ap (λ (n : ℕ). eqb n h.trip) (sym m.trip) ∙ e in (
          ap (λ (d : Stage S). d.trip) x,
          ap (λ (d : Stage S). d.aboard) x ∙ sym (cond-false (eqb p.trip h.trip) p.aboard [] y),
          ap (λ (d : Stage S). d.store) x ∙ m.store,
          subst (λ (d : Stage S). length d.aboard ≤ room.aboard) (sym x) (omega arith),
          subst (λ (d : Stage S). length d.store ≤ room.labels) (sym x) m.store_fits,
        ))
  ]

  pub hop_beside : (k i : ℕ) (h : Hop) (s : Stage S) (p : Pass S) → Same s p → Beside (pass_hop w.fare room k i h s) (hop∞ w k i h p) (crowd∞ w k i h p)
  unfolding pass_hop hop∞ carried∞
  hop_beside k i h s p m = go h.runs (kept_same h s p m) (λ x y. riding_beside k i h (kept h s) x y)
    where
      go : (b : Bool) → ((kept h s).trip ≡ h.trip) × ((kept h s).aboard ≡ kept∞ w h p) × ((kept h s).store ≡ p.store) × (length (kept h s).aboard ≤ room.aboard) × (length (kept h s).store ≤ room.labels)
          → (length (kept h s).aboard ≤ room.aboard → length (kept h s).store ≤ room.labels → Beside (riding w.fare room k i h s) (rides k i h (kept h s).trip (kept h s).aboard (kept h s).store) (length (foldi (board∞ w k i h) 0 (kept h s).store (kept h s).aboard)))
          → Beside (cond b (riding w.fare room k i h s) (on (emptied h.trip s)))
          (cond b (record { trip = h.trip; aboard = map (rides_on w.fare h) (foldi (board∞ w k i h) 0 p.store (kept∞ w h p)); store = foldi (alight∞ w k i h) 0 (map (rides_on w.fare h) (foldi (board∞ w k i h) 0 p.store (kept∞ w h p))) p.store }) (record { trip = h.trip; aboard = []; store = p.store }))
          (cond b (length (foldi (board∞ w k i h) 0 p.store (kept∞ w h p))) 0)
      go true g ran =
          let a : rides k i h (kept h s).trip (kept h s).aboard (kept h s).store ≡ rides k i h h.trip (kept∞ w h p) p.store = λ v. rides k i h (g.0 v) (g.1 v) (g.2 v) in
          let c : length (foldi (board∞ w k i h) 0 (kept h s).store (kept h s).aboard) ≡ length (foldi (board∞ w k i h) 0 p.store (kept∞ w h p)) = λ v. length (foldi (board∞ w k i h) 0 (g.2 v) (g.1 v)) in
          subst (λ (n : ℕ). Beside (riding w.fare room k i h s) (rides k i h h.trip (kept∞ w h p) p.store) n) c (subst (λ (x : Pass S). Beside (riding w.fare room k i h s) x (length (foldi (board∞ w k i h) 0 (kept h s).store (kept h s).aboard))) a (ran g.3 g.4))
      go false g ran = (record { trip = refl; aboard = refl; store = m.store; aboard_fits = omega arith; store_fits = m.store_fits }, omega arith)

  -- the first i hops of a round
  pub pass_beside : (k : ℕ) (s : Stage S) (ls : List (Label S)) → s.store ≡ ls → length s.store ≤ room.labels → (i : ℕ) → Beside (pass_hops w.fare room w.hops k s i) (pass∞ w k ls i) (pass_crowd∞ w k ls i)
  pass_beside k s ls e n zero = (record { trip = refl; aboard = refl; store = e; aboard_fits = omega arith; store_fits = n }, omega arith)
  pass_beside k s ls e n (suc i) = go (pass_hops w.fare room w.hops k s i) (pass_beside k s ls e n i)
    where
      longer : length (pass∞ w k ls i).store ≤ length (pass∞ w k ls (suc i)).store
      longer = grown_longer _ _ _ (hop_grown w k i (hop_in w i) (pass∞ w k ls i))

      next : (r : Run (Stage S)) → pass_crowd∞ w k ls i ≤ room.aboard → Beside r (pass∞ w k ls (suc i)) (crowd∞ w k i (hop_in w i) (pass∞ w k ls i)) → Beside r (pass∞ w k ls (suc i)) (max (pass_crowd∞ w k ls i) (crowd∞ w k i (hop_in w i) (pass∞ w k ls i)))
      next (on t) c b = (b.0, omega (arith, b.1, c))
      next (ended q t) c (inl x) = inl x
      next (ended q t) c (inr x) = inr (omega (arith, x))

      go : (r : Run (Stage S)) → Beside r (pass∞ w k ls i) (pass_crowd∞ w k ls i) → Beside (and_then r (pass_hop w.fare room k i (hop_in w i))) (pass∞ w k ls (suc i)) (max (pass_crowd∞ w k ls i) (crowd∞ w k i (hop_in w i) (pass∞ w k ls i)))
      go (on t) b = next (pass_hop w.fare room k i (hop_in w i) t) b.1 (hop_beside k i (hop_in w i) t (pass∞ w k ls i) b.0)
      go (ended q t) (inl x) = inl (omega (arith, x, longer))
      go (ended q t) (inr x) = inr (omega (arith, x))

  -- the store after a round, and the most aboard so far
  abbrev pub Along : Run (Stage S) → List (Label S) → ℕ → Type 0
  Along (on s) all crowd = (s.store ≡ all) × (length s.store ≤ room.labels) × (crowd ≤ room.aboard)
  Along (ended q s) all crowd = Exceeds all crowd

  walking_along : (k : ℕ) (s : Stage S) (ls : List (Label S)) (crowd : ℕ) → s.store ≡ ls → length s.store ≤ room.labels → crowd ≤ room.aboard → Along (walking w.fare room w.hops w.paths k s) (walks∞ w k ls) crowd
  walking_along k s ls crowd e n c = go (walks w.fare room.labels w.paths k s.store) (tracks_walks k s.store n)
    where
      go : (r : Run (List (Label S))) → Tracks room.labels r (walks∞ w k s.store) → Along (within (with_store s) r) (walks∞ w k ls) crowd
      go (on xs) t = (t.0 ∙ ap (walks∞ w k) e, t.1, c)
      go (ended q xs) t = inl (subst (λ l. room.labels < length (walks∞ w k l)) e t)

  pub walks_longer : (k : ℕ) (ls : List (Label S)) → length ls ≤ length (walks∞ w k ls)
  walks_longer k ls = grown_longer _ _ _ (foot_grown w k ls)

  round_along : (k : ℕ) (s : Stage S) (ls : List (Label S)) (crowd : ℕ) → s.store ≡ ls → length s.store ≤ room.labels → crowd ≤ room.aboard
      → Along (round w.fare room w.hops w.paths (suc k) s) (walks∞ w (suc k) (pass∞ w (suc k) ls (count_of w.hops)).store) (max crowd (pass_crowd∞ w (suc k) ls (count_of w.hops)))
  round_along k s ls crowd e n c = go (pass_hops w.fare room w.hops (suc k) s (count_of w.hops)) (pass_beside (suc k) s ls e n (count_of w.hops))
    where
      go : (r : Run (Stage S)) → Beside r (pass∞ w (suc k) ls (count_of w.hops)) (pass_crowd∞ w (suc k) ls (count_of w.hops))
          → Along (and_then r (walking w.fare room w.hops w.paths (suc k))) (walks∞ w (suc k) (pass∞ w (suc k) ls (count_of w.hops)).store) (max crowd (pass_crowd∞ w (suc k) ls (count_of w.hops)))
      go (on t) b = walking_along (suc k) t (pass∞ w (suc k) ls (count_of w.hops)).store _ b.0.store b.0.store_fits (omega (arith, b.1, c))
      go (ended q t) (inl x) = inl (omega (arith, x, walks_longer (suc k) (pass∞ w (suc k) ls (count_of w.hops)).store))
      go (ended q t) (inr x) = inr (omega (arith, x))

  pub rounds_along : count_of w.hops ≡ length w.hops → (s : Stage S) → s.store ≡ first∞ w ∷ [] → length s.store ≤ room.labels → (k : ℕ) → Along (rounds w.fare room w.hops w.paths s (suc k)) (scan∞ w k) (most_aboard∞ w k)
  rounds_along few s e n zero = walking_along 0 (emptied 0 s) (first∞ w ∷ []) 0 e n (omega arith)
  rounds_along few s e n (suc k) = go (rounds w.fare room w.hops w.paths s (suc k)) (rounds_along few s e n k)
    where
      longer : length (scan∞ w k) ≤ length (scan∞ w (suc k))
      longer = omega (arith, grown_longer _ _ _ (pass_grown w (suc k) (scan∞ w k) (length w.hops)), walks_longer (suc k) (pass∞ w (suc k) (scan∞ w k) (length w.hops)).store)

      go : (r : Run (Stage S)) → Along r (scan∞ w k) (most_aboard∞ w k) → Along (and_then r (round w.fare room w.hops w.paths (suc k))) (scan∞ w (suc k)) (most_aboard∞ w (suc k))
      go (on t) b = subst (λ (m : ℕ). Along (round w.fare room w.hops w.paths (suc k) t) (walks∞ w (suc k) (pass∞ w (suc k) (scan∞ w k) m).store) (max (most_aboard∞ w k) (pass_crowd∞ w (suc k) (scan∞ w k) m))) few (round_along k t (scan∞ w k) (most_aboard∞ w k) b.0 b.1 b.2)
      go (ended q t) (inl x) = inl (omega (arith, x, longer))
      go (ended q t) (inr x) = inr (omega (arith, x))

  -- at least the first label is written
  pub first_longer : (k : ℕ) → 1 ≤ length (scan∞ w k)
  first_longer zero = walks_longer 0 (first∞ w ∷ [])
  first_longer (suc k) = omega (arith, first_longer k, grown_longer _ _ _ (pass_grown w (suc k) (scan∞ w k) (length w.hops)), walks_longer (suc k) (pass∞ w (suc k) (scan∞ w k) (length w.hops)).store)

  -- the whole scan
  pub scan_along : count_of w.hops ≡ length w.hops → (held : List (Passenger S)) (limit : ℕ) → Along (scan w.fare room w.hops w.paths (first∞ w) held limit) (scan∞ w limit) (most_aboard∞ w limit)
  scan_along few held limit = go (offer w.fare room.labels (first∞ w) []) (tracks_offer (first∞ w) [] (omega arith))
    where
      go : (r : Run (List (Label S))) → Tracks room.labels r (first∞ w ∷ []) → Along (and_then (within (with_store (blank held)) r) (λ s. rounds w.fare room w.hops w.paths s (suc limit))) (scan∞ w limit) (most_aboard∞ w limit)
      go (on ls) t = rounds_along few (with_store (blank held) ls) t.0 t.1 limit
      go (ended q ls) t = inl (omega (arith, t, first_longer limit))
