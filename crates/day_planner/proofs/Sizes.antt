-- A question leaves each of its four lists as long as it was.
use Rattle.std.proofs.Common.{◌≡◌, ℕ, zero, suc, ◌≤◌, Bool, true, cond, eqb, ltb, List, [], ◌∷◌, ◌++◌, map, length, get_or, Some, None, Ok, Option, sym, refl, ◌∙◌, subst, arith, length-append, length-drop}
use lib.ListN.{length-map}
use Rattle.std.proofs.lemmas.Bool.{cond_both, ltb-true, ltb-false}
use Rattle.timetable.specs.declared.hops.Hop.{Hop}
use Rattle.timetable.specs.Rule.{keeps}
use Rattle.journeys.specs.declared.full.Full.{Full}
use Rattle.journeys.specs.declared.full.Full.TheVariants.{Aboard}
use Rattle.journeys.specs.declared.label.Label.{Label}
use Rattle.journeys.specs.declared.label.Passenger.{Passenger}
use Rattle.journeys.specs.declared.network.Footpath.{Footpath}
use Rattle.journeys.specs.declared.network.Stop.{Stop}
use Rattle.journeys.specs.declared.question.Question.{Question}
use Rattle.journeys.specs.Endless.{scan∞}
use Rattle.journeys.specs.Fare.{FareModel}
use Rattle.journeys.specs.Labels.{label_at_origin, passenger, rides_on, boards}
use Rattle.journeys.specs.Lists.{any}
use Rattle.journeys.specs.Runs.{Run, on, ended, overlay, and_then, within, run_each, push, result_of}
use Rattle.journeys.specs.Scan.{Room, Stage, emptied, kept, with_aboard, with_store, no_hop, offer, seat, walks, board, alight, boarding, alighting, riding, pass_hop, pass_hops, passed, walking, round, rounds, blank, scan, scan_for}
use Rattle.journeys.specs.Selection.{best_offers}
use Rattle.journeys.proofs.Filled.{Throughout, StoreFew, StoreFilled, scan_filled}
use Rattle.sheet.specs.Format.{encode}
use Rattle.sheet.specs.Rows.{most_rows}
use Rattle.sheet.proofs.Sheets.{encode_le}
use Rattle.scan.specs.Chains.{linked}
use Rattle.scan.proofs.Chains.{length_linked}
use Rattle.planner.specs.declared.refusal.Refusal.{Refusal}
use Rattle.planner.specs.declared.refusal.Refusal.TheVariants.{ManyOffers}
use Rattle.planner.specs.Handout.{row_of, legs_from}
use Rattle.planner.specs.Limits.{fault_of}
use Rattle.planner.specs.Outcome.{Memory, asked, scanned, answered, counted, refused, used, printed, unless}
use Rattle.planner.specs.Promise.{setup_of}
use Rattle.planner.proofs.Settled.{Limits, limits, store_is, legs_fit}
use Rattle.day_planner.specs.Rooms.{SameRoom}

overlay_length : {A : Type 0} (xs old : List A) → length xs ≤ length old → length (overlay xs old) ≡ length old
overlay_length xs old h = simp (length-append, length-drop) (omega arith)

-- What each step of a run keeps, the whole run keeps, also where a full list has ended it.
module _ {X : Type 0} (P : X → Type 0) where
  then_keeps : (r : Run X) (f : X → Run X) → P (result_of r) → ((x : X) → P x → P (result_of (f x))) → P (result_of (and_then r f))
  then_keeps (on x) f p h = h x p
  then_keeps (ended q x) f p h = p

  each_keeps : {A : Type 0} (f : ℕ → A → X → Run X) → ((i : ℕ) (a : A) (x : X) → P x → P (result_of (f i a x))) → (i : ℕ) (xs : List A) (x : X) → P x → P (result_of (run_each f i xs x))
  each_keeps f h i [] x p = p
  each_keeps f h i (a ∷ xs) x p = then_keeps (f i a x) (run_each f (suc i) xs) (h i a x p) (each_keeps f h (suc i) xs)

  within_keeps : {Y : Type 0} (g : Y → X) (r : Run Y) → P (g (result_of r)) → P (result_of (within g r))
  within_keeps g (on y) p = p
  within_keeps g (ended q y) p = p

push_within : {A : Type 0} (test : A → Bool) (n : ℕ) (full : Full) (x : A) (xs : List A) → length xs ≤ n → length (result_of (push test n full x xs)) ≤ n
push_within test n full x xs h = cond_both (any test xs) (on xs) (cond (ltb (length xs) n) (on (xs ++ (x ∷ []))) (ended full xs)) (λ r. length (result_of r) ≤ n) (λ _. h)
    (λ _. cond_both (ltb (length xs) n) (on (xs ++ (x ∷ []))) (ended full xs) (λ r. length (result_of r) ≤ n) (λ t. simp length-append (omega (arith, ltb-true (length xs) n t))) (λ _. h))

-- Those aboard are never more than there are places, so writing them over the places does not change how many there are.
-- That holds of the blank stage, and each step of the scan keeps it: boarding writes no passenger where there is no room,
-- riding on changes those aboard one by one, and alighting and walking write to the store alone.
module _ {S : Type 0} (f : FareModel S) (room : Room) where
  abbrev Seated : Stage S → Type 0
  Seated s = (length s.aboard ≤ room.aboard) × (length s.places ≡ room.aboard)

  with_aboard_seated : (s : Stage S) (ps : List (Passenger S)) → Seated s → length ps ≤ room.aboard → Seated (with_aboard s ps)
  with_aboard_seated s ps p h = (h, overlay_length ps s.places (omega (arith, p.1)) ∙ p.1)

  boarding_seated : (k i : ℕ) (h : Hop) (s : Stage S) → Seated s → Seated (result_of (boarding f room k i h s))
  boarding_seated k i h s p = within_keeps Seated (with_aboard s) (run_each (board f room.aboard k i h) 0 s.store s.aboard)
      (with_aboard_seated s (result_of (run_each (board f room.aboard k i h) 0 s.store s.aboard)) p
      (each_keeps (λ ps. length ps ≤ room.aboard) (board f room.aboard k i h)
      (λ j l ps few. cond_both (boards k h l) (seat f room.aboard i (passenger f i j l) ps) (on ps) (λ r. length (result_of r) ≤ room.aboard) (λ _. push_within (λ q. f.covers q.state (passenger f i j l).state) room.aboard (Aboard i) (passenger f i j l) ps few) (λ _. few))
      0 s.store s.aboard p.0))

  hop_seated : (k i : ℕ) (h : Hop) (s : Stage S) → Seated s → Seated (result_of (pass_hop f room k i h s))
  unfolding pass_hop
  hop_seated k i h s p = cond_both h.runs (riding f room k i h s) (on (emptied h.trip s)) (λ r. Seated (result_of r))
      (λ _. then_keeps Seated (boarding f room k i h (kept h s)) (λ t. alighting f room k i h (with_aboard t (map (rides_on f h) t.aboard))) (boarding_seated k i h (kept h s) (cond_both (eqb s.trip h.trip) s (emptied h.trip s) Seated (λ _. p) (λ _. none_seated)))
      (λ t r. let ps = map (rides_on f h) t.aboard in within_keeps Seated (with_store (with_aboard t ps)) (run_each (alight f room.labels k i h) 0 ps t.store) (with_aboard_seated t ps r (simp length-map r.0))))
      (λ _. none_seated)
    where
      none_seated : Seated (emptied h.trip s)
      none_seated = (omega arith, p.1)

  hops_seated : (hops : List Hop) (k : ℕ) (s : Stage S) → Seated s → (n : ℕ) → Seated (result_of (pass_hops f room hops k s n))
  hops_seated hops k s p zero = (omega arith, p.1)
  hops_seated hops k s p (suc n) = then_keeps Seated (pass_hops f room hops k s n) (pass_hop f room k n (get_or hops n no_hop)) (hops_seated hops k s p n) (hop_seated k n (get_or hops n no_hop))

  rounds_seated : (hops : List Hop) (paths : List Footpath) (s : Stage S) → Seated s → (n : ℕ) → Seated (result_of (rounds f room hops paths s n))
  rounds_seated hops paths s p zero = p
  rounds_seated hops paths s p (suc n) = then_keeps Seated (rounds f room hops paths s n) (round f room hops paths n) (rounds_seated hops paths s p n)
      (λ t r. then_keeps Seated (pass_hops f room hops n t (passed hops n)) (walking f room hops paths n) (hops_seated hops n t r (passed hops n))
      (λ u v. within_keeps Seated (with_store u) (walks f room.labels paths n u.store) v))

  scan_seated : (hops : List Hop) (paths : List Footpath) (origin : Label S) (held : List (Passenger S)) (limit : ℕ) → length held ≡ room.aboard → Seated (result_of (scan f room hops paths origin held limit))
  scan_seated hops paths origin held limit e = then_keeps Seated (within (with_store (blank held)) (offer f room.labels origin [])) (λ s. rounds f room hops paths s (suc limit))
      (within_keeps Seated (with_store (blank held)) (offer f room.labels origin []) (omega arith, e))
      (λ s p. rounds_seated hops paths s p (suc limit))

module _ {S : Type 0} (f : FareModel S) (hops : List Hop) (stops : List Stop) (paths : List Footpath) (q : Question) (m : Memory S) where
  abbrev room : Room
  room = record { labels = length m.labels; aboard = length m.aboard }

  abbrev origin : Label S
  origin = label_at_origin f q.origin q.departure

  -- what a stage has used is as long as before, where the store fits and there are as many places as before
  used_sizes : (written : ℕ) (s : Stage S) → StoreFew f room s → length s.places ≡ length m.aboard → SameRoom m (used written s m)
  used_sizes written s few e = record { labels = overlay_length (linked s.store) m.labels (omega (arith, few, length_linked 0 s.store)); aboard = e; sheet = refl; legs = refl }

  -- A scan that has come to its end has the endless scan's store. So where there are at most 32 best offers, their sheet
  -- takes at most the 225 bytes that a question without a fault has, and their legs fit too. Where there are more,
  -- nothing is printed.
  answered_sizes : keeps hops ≡ true → Limits q stops paths hops (length m.sheet) (length m.legs) → (s : Stage S) → s.store ≡ scan∞ (setup_of f hops paths q) q.rides
      → SameRoom m (used (length s.store) s m) → SameRoom m (answered f q.destination m s).left
  answered_sizes rule lim s e same =
      let os = best_offers f q.destination s.store in
      cond_both (ltb most_rows (length os)) (refused (ManyOffers (length os)) (used (length s.store) s m)) (record { answer = Ok (counted f q.destination s); left = printed f q.destination s m }) (λ o. SameRoom m o.left) (λ _. same)
      (λ t. let few : length os ≤ 32 = ltb-false most_rows (length os) t in record {
        labels = same.labels;
        aboard = same.aboard;
        sheet = overlay_length (encode (map row_of os)) m.sheet (omega (arith, encode_le (map row_of os) (simp length-map few)));
        legs = overlay_length (legs_from s.store 0 os) m.legs
            (subst (λ ls. length (best_offers f q.destination ls) ≤ 32 → length (legs_from ls 0 (best_offers f q.destination ls)) ≤ length m.legs) (sym e) (legs_fit f q stops paths hops (length m.sheet) (length m.legs) rule lim) few);
      })

  scanned_sizes : keeps hops ≡ true → Limits q stops paths hops (length m.sheet) (length m.legs) → (r : Run (Stage S)) → scan_for f hops paths q m.labels m.aboard ≡ r
      → Throughout (StoreFew f room) (StoreFilled f room) r → length (result_of r).places ≡ length m.aboard → SameRoom m (scanned f q.destination m r).left
  scanned_sizes rule lim (on s) e few places = answered_sizes rule lim s (store_is f q stops paths hops (length m.sheet) (length m.legs) rule lim m.labels m.aboard s e) (used_sizes (length s.store) s few places)
  scanned_sizes rule lim (ended full s) e few places = used_sizes 0 s few.0 places

  -- a fault leaves all lists as they were
  pub asked_sizes : keeps hops ≡ true → SameRoom m (asked f hops stops paths q m).left
  asked_sizes rule = go (fault_of q stops paths hops (length m.sheet) (length m.legs)) refl
    where
      go : (o : Option Refusal) → fault_of q stops paths hops (length m.sheet) (length m.legs) ≡ o → SameRoom m (unless o m (scanned f q.destination m (scan_for f hops paths q m.labels m.aboard))).left
      go (Some refusal) e = record { labels = refl; aboard = refl; sheet = refl; legs = refl }
      go None e = scanned_sizes rule (limits q stops paths hops (length m.sheet) (length m.legs) e) (scan_for f hops paths q m.labels m.aboard) refl
          (scan_filled f room hops paths origin m.aboard q.rides) (scan_seated f room hops paths origin m.aboard q.rides refl).1
