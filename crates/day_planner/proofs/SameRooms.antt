-- Two boards that are asked alike answer alike: what a question writes depends on the room that it is lent, and not on what the
-- lists held; and where it is answered, not even on the room.
use Rattle.std.proofs.Common.{◌≡◌, ℕ, zero, suc, Bool, true, false, cond, eqb, ltb, List, [], ◌++◌, map, length, take, drop, get_or, Some, None, Ok, Err, Option, Result, sym, refl, ap, ◌∙◌, subst, subst₂, arith}
use Rattle.std.proofs.Math.Seq.{take-append_seam}
use Rattle.std.proofs.lemmas.Bool.{true≢false}
use Rattle.std.proofs.lemmas.Slice.Eq.{bytes_eq-Decides}
use Rattle.timetable.specs.declared.hops.Hop.{Hop}
use Rattle.timetable.specs.Rule.{keeps}
use Rattle.timetable.specs.Table.{trips_of}
use Rattle.fares.specs.declared.fare_state.FareState.{FareState}
use Rattle.journeys.specs.declared.label.Label.{Label}
use Rattle.journeys.specs.declared.label.Passenger.{Passenger}
use Rattle.journeys.specs.declared.network.Footpath.{Footpath}
use Rattle.journeys.specs.declared.network.Stop.{Stop}
use Rattle.journeys.specs.declared.question.Question.{Question}
use Rattle.journeys.specs.Endless.{scan∞}
use Rattle.journeys.specs.Fare.{FareModel}
use Rattle.journeys.specs.Labels.{label_at_origin, rides_on}
use Rattle.journeys.specs.Runs.{Run, on, ended, and_then, within, run_each}
use Rattle.journeys.specs.Scan.{Room, Stage, emptied, kept, with_aboard, with_store, no_hop, offer, walks, board, alight, boarding, alighting, riding, pass_hop, pass_hops, passed, walking, round, rounds, blank, scan, scan_for}
use Rattle.journeys.specs.Selection.{best_offers}
use Rattle.service_day.specs.DayStates.{first_day, meant_on}
use Rattle.service_day.specs.LayerRule.{both_keep}
use Rattle.sheet.specs.Format.{encode}
use Rattle.sheet.specs.Rows.{most_rows}
use Rattle.scan.specs.Chains.{linked}
use Rattle.scan.proofs.Chains.{length_linked}
use Rattle.planner.specs.declared.answer.Answer.{Answer}
use Rattle.planner.specs.declared.refusal.Refusal.{Refusal}
use Rattle.planner.specs.declared.refused.Refused.{Refused}
use Rattle.planner.specs.declared.refusal.Refusal.TheVariants.{ManyOffers}
use Rattle.planner.specs.Comparing.{compared as compared_sheets}
use Rattle.planner.specs.Handout.{row_of, legs_from}
use Rattle.planner.specs.Limits.{fault_of}
use Rattle.planner.specs.Outcome.{Memory, Outcome, asked, scanned, answered, counted, refused, refusal_of_scan, used, printed, unless}
use Rattle.planner.specs.Promise.{setup_of}
use Rattle.planner.proofs.Settled.{limits, store_is}
use Rattle.day_planner.specs.declared.entry.Entry.{Entry}
use Rattle.day_planner.specs.Comparing.{compared}
use Rattle.day_planner.specs.Log.{Basis, day_after, memory_after, asked_after}
use Rattle.day_planner.specs.Promise.{fare_of}
use Rattle.day_planner.specs.Rooms.{SameRoom, AnsweredAlike, SameAnswer, AskedAlike, BothAnswered, NeverDiffers, AnswerAlike}
use Rattle.day_planner.proofs.AfterLog.{log_sizes}

-- two runs go alike: both go on, or the same list has ended both
abbrev Alike : {X : Type 0} → (X → X → Type 0) → Run X → Run X → Type 0
Alike R (on x) (on y) = R x y
Alike R (on x) (ended p y) = ⊥
Alike R (ended q x) (on y) = ⊥
Alike R (ended q x) (ended p y) = (q ≡ p) × R x y

module _ {X : Type 0} (R : X → X → Type 0) where
  then_alike : (r t : Run X) (f g : X → Run X) → Alike R r t → ((x y : X) → R x y → Alike R (f x) (g y)) → Alike R (and_then r f) (and_then t g)
  then_alike (on x) (on y) f g p h = h x y p
  then_alike (on x) (ended k y) f g p h = absurd p
  then_alike (ended q x) (on y) f g p h = absurd p
  then_alike (ended q x) (ended k y) f g p h = p

  within_alike : {Y : Type 0} (g h : Y → X) → ((y : Y) → R (g y) (h y)) → (r : Run Y) → Alike R (within g r) (within h r)
  within_alike g h e (on y) = e y
  within_alike g h e (ended q y) = (refl, e y)

  either_alike : (b : Bool) (x y z w : X) → R x z → R y w → R (cond b x y) (cond b z w)
  either_alike true x y z w p q = p
  either_alike false x y z w p q = q

-- two stages differ at most in what the places for those aboard hold
record SameStage {S : Type 0} (s t : Stage S) : Type 0 where
  trip : s.trip ≡ t.trip
  aboard : s.aboard ≡ t.aboard
  store : s.store ≡ t.store

-- a stage whose places hold something else
abbrev moved : {S : Type 0} → List (Passenger S) → Stage S → Stage S
moved ps s = record { trip = s.trip; aboard = s.aboard; places = ps; store = s.store }

module _ {S : Type 0} where
  as_moved : (s t : Stage S) → SameStage s t → moved t.places s ≡ t
  as_moved s t e = λ i. record { trip = e.trip i; aboard = e.aboard i; places = t.places; store = e.store i }

  -- what goes alike from a stage and from the same with other places, goes alike from any two
  lifted : (g : Stage S → Run (Stage S)) → ((s : Stage S) (ps : List (Passenger S)) → Alike SameStage (g s) (g (moved ps s))) → (s t : Stage S) → SameStage s t → Alike SameStage (g s) (g t)
  lifted g h s t e = subst (λ (z : Stage S). Alike SameStage (g s) (g z)) (as_moved s t e) (h s t.places)

-- No step of the scan looks at what the places for those aboard hold.
module _ {S : Type 0} (f : FareModel S) (room : Room) where
  boarding_alike : (k i : ℕ) (h : Hop) (s t : Stage S) → SameStage s t → Alike SameStage (boarding f room k i h s) (boarding f room k i h t)
  boarding_alike k i h = lifted (boarding f room k i h)
      (λ s ps. within_alike SameStage (with_aboard s) (with_aboard (moved ps s)) (λ y. record { trip = refl; aboard = refl; store = refl }) (run_each (board f room.aboard k i h) 0 s.store s.aboard))

  alighting_alike : (k i : ℕ) (h : Hop) (s t : Stage S) → SameStage s t → Alike SameStage (alighting f room k i h s) (alighting f room k i h t)
  alighting_alike k i h = lifted (alighting f room k i h)
      (λ s ps. within_alike SameStage (with_store s) (with_store (moved ps s)) (λ y. record { trip = refl; aboard = refl; store = refl }) (run_each (alight f room.labels k i h) 0 s.aboard s.store))

  kept_alike : (h : Hop) (s t : Stage S) → SameStage s t → SameStage (kept h s) (kept h t)
  kept_alike h s t e = subst (λ (z : Stage S). SameStage (kept h s) (kept h z)) (as_moved s t e)
      (either_alike SameStage (eqb s.trip h.trip) s (emptied h.trip s) (moved t.places s) (emptied h.trip (moved t.places s)) (record { trip = refl; aboard = refl; store = refl }) (record { trip = refl; aboard = refl; store = refl }))

  hop_alike : (k i : ℕ) (h : Hop) (s t : Stage S) → SameStage s t → Alike SameStage (pass_hop f room k i h s) (pass_hop f room k i h t)
  unfolding pass_hop
  hop_alike k i h s t e =
      let ride : Stage S → Run (Stage S) = λ x. alighting f room k i h (with_aboard x (map (rides_on f h) x.aboard)) in
      either_alike (Alike SameStage) h.runs (riding f room k i h s) (on (emptied h.trip s)) (riding f room k i h t) (on (emptied h.trip t))
      (then_alike SameStage (boarding f room k i h (kept h s)) (boarding f room k i h (kept h t)) ride ride
      (boarding_alike k i h (kept h s) (kept h t) (kept_alike h s t e))
      (λ x y r. alighting_alike k i h (with_aboard x (map (rides_on f h) x.aboard)) (with_aboard y (map (rides_on f h) y.aboard)) (record { trip = r.trip; aboard = ap (map (rides_on f h)) r.aboard; store = r.store })))
      (record { trip = refl; aboard = refl; store = e.store })

  hops_alike : (hops : List Hop) (k : ℕ) (s t : Stage S) → SameStage s t → (n : ℕ) → Alike SameStage (pass_hops f room hops k s n) (pass_hops f room hops k t n)
  hops_alike hops k s t e zero = record { trip = refl; aboard = refl; store = e.store }
  hops_alike hops k s t e (suc n) = then_alike SameStage (pass_hops f room hops k s n) (pass_hops f room hops k t n) (pass_hop f room k n (get_or hops n no_hop)) (pass_hop f room k n (get_or hops n no_hop)) (hops_alike hops k s t e n) (hop_alike k n (get_or hops n no_hop))

  walking_alike : (hops : List Hop) (paths : List Footpath) (k : ℕ) (s t : Stage S) → SameStage s t → Alike SameStage (walking f room hops paths k s) (walking f room hops paths k t)
  walking_alike hops paths k = lifted (walking f room hops paths k)
      (λ s ps. within_alike SameStage (with_store s) (with_store (moved ps s)) (λ y. record { trip = refl; aboard = refl; store = refl }) (walks f room.labels paths k s.store))

  round_alike : (hops : List Hop) (paths : List Footpath) (k : ℕ) (s t : Stage S) → SameStage s t → Alike SameStage (round f room hops paths k s) (round f room hops paths k t)
  round_alike hops paths k s t e = then_alike SameStage (pass_hops f room hops k s (passed hops k)) (pass_hops f room hops k t (passed hops k)) (walking f room hops paths k) (walking f room hops paths k) (hops_alike hops k s t e (passed hops k)) (walking_alike hops paths k)

  rounds_alike : (hops : List Hop) (paths : List Footpath) (s t : Stage S) → SameStage s t → (n : ℕ) → Alike SameStage (rounds f room hops paths s n) (rounds f room hops paths t n)
  rounds_alike hops paths s t e zero = e
  rounds_alike hops paths s t e (suc n) = then_alike SameStage (rounds f room hops paths s n) (rounds f room hops paths t n) (round f room hops paths n) (round f room hops paths n) (rounds_alike hops paths s t e n) (round_alike hops paths n)

  scan_alike : (hops : List Hop) (paths : List Footpath) (origin : Label S) (held other : List (Passenger S)) (limit : ℕ) → Alike SameStage (scan f room hops paths origin held limit) (scan f room hops paths origin other limit)
  scan_alike hops paths origin held other limit = then_alike SameStage
      (within (with_store (blank held)) (offer f room.labels origin [])) (within (with_store (blank other)) (offer f room.labels origin []))
      (λ s. rounds f room hops paths s (suc limit)) (λ s. rounds f room hops paths s (suc limit))
      (within_alike SameStage (with_store (blank held)) (with_store (blank other)) (λ y. record { trip = refl; aboard = refl; store = refl }) (offer f room.labels origin []))
      (λ s t e. rounds_alike hops paths s t e (suc limit))

-- the front of a list does not depend on what stands behind it
same_front : {A : Type 0} (n : ℕ) (xs ys zs : List A) → length xs ≡ n → take n (xs ++ ys) ≡ take n (xs ++ zs)
same_front n xs ys zs e = subst (λ (k : ℕ). take k (xs ++ ys) ≡ take k (xs ++ zs)) e (take-append_seam xs ys ∙ sym (take-append_seam xs zs))

-- a stage with another store
abbrev stored : {S : Type 0} → List (Label S) → Stage S → Stage S
stored ls t = record { trip = t.trip; aboard = t.aboard; places = t.places; store = ls }

module _ {S : Type 0} (f : FareModel S) (hops : List Hop) (stops : List Stop) (paths : List Footpath) (q : Question) (m n : Memory S) where
  -- an answer is made of the store
  answered_alike : (s t : Stage S) → s.store ≡ t.store → SameAnswer (answered f q.destination m s) (answered f q.destination n t)
  answered_alike s t e = subst (λ (ls : List (Label S)). SameAnswer (answered f q.destination m s) (answered f q.destination n (stored ls t))) e (
      let os = best_offers f q.destination s.store in
      let bytes = encode (map row_of os) in
      let walked = legs_from s.store 0 os in
      let z = stored s.store t in
      either_alike SameAnswer (ltb most_rows (length os))
      (refused (ManyOffers (length os)) (used (length s.store) s m)) (record { answer = Ok (counted f q.destination s); left = printed f q.destination s m })
      (refused (ManyOffers (length os)) (used (length s.store) z n)) (record { answer = Ok (counted f q.destination s); left = printed f q.destination z n })
      (record { answer = refl; written = tt })
      (record {
        answer = refl;
        written = record {
          count = refl;
          labels = same_front (length s.store) (linked s.store) (drop (length (linked s.store)) m.labels) (drop (length (linked s.store)) n.labels) (length_linked 0 s.store);
          sheet = same_front (length bytes) bytes (drop (length bytes) m.sheet) (drop (length bytes) n.sheet) refl;
          legs = same_front (length walked) walked (drop (length walked) m.legs) (drop (length walked) n.legs) refl;
        };
      }))

  scanned_alike : (r t : Run (Stage S)) → Alike SameStage r t → SameAnswer (scanned f q.destination m r) (scanned f q.destination n t)
  scanned_alike (on s) (on t) e = answered_alike s t e.store
  scanned_alike (on s) (ended k t) e = absurd e
  scanned_alike (ended k s) (on t) e = absurd e
  scanned_alike (ended k s) (ended l t) e = record { answer = λ i. Err (refusal_of_scan (e.0 i) (length (e.1.store i))); written = tt }

  unless_alike : (o : Option Refusal) (x y : Outcome S) → SameAnswer x y → SameAnswer (unless o m x) (unless o n y)
  unless_alike (Some refusal) x y e = record { answer = refl; written = tt }
  unless_alike None x y e = e

  asked_alike : SameRoom m n → SameAnswer (asked f hops stops paths q m) (asked f hops stops paths q n)
  asked_alike e =
      let x : Outcome S = scanned f q.destination m (scan_for f hops paths q m.labels m.aboard) in
      let y : Outcome S = scanned f q.destination n (scan_for f hops paths q n.labels n.aboard) in
      let here : Room = record { labels = length m.labels; aboard = length m.aboard } in
      let there : Room = record { labels = length n.labels; aboard = length n.aboard } in
      let room : here ≡ there = λ i. record { labels = sym e.labels i; aboard = sym e.aboard i } in
      let origin = label_at_origin f q.origin q.departure in
      let scans : Alike SameStage (scan f here hops paths origin m.aboard q.rides) (scan f there hops paths origin n.aboard q.rides) =
      subst (λ (r : Room). Alike SameStage (scan f here hops paths origin m.aboard q.rides) (scan f r hops paths origin n.aboard q.rides)) room (scan_alike f here hops paths origin m.aboard n.aboard q.rides) in
      subst₂ (λ (a b : ℕ). SameAnswer (asked f hops stops paths q m) (unless (fault_of q stops paths hops a b) n y)) (sym e.sheet) (sym e.legs)
      (unless_alike (fault_of q stops paths hops (length m.sheet) (length m.legs)) x y (scanned_alike (scan_for f hops paths q m.labels m.aboard) (scan_for f hops paths q n.labels n.aboard) scans))

  both_scanned : (ls : List (Label S)) (r t : Run (Stage S)) → ((s : Stage S) → r ≡ on s → s.store ≡ ls) → ((s : Stage S) → t ≡ on s → s.store ≡ ls)
      → BothAnswered (scanned f q.destination m r) (scanned f q.destination n t) → SameAnswer (scanned f q.destination m r) (scanned f q.destination n t)
  both_scanned ls (on s) (on t) h k e = answered_alike s t (h s refl ∙ sym (k t refl))
  both_scanned ls (on s) (ended l t) h k e = absurd (true≢false (sym e.second))
  both_scanned ls (ended k s) t h l e = absurd (true≢false (sym e.first))

  both_unless : (a b : Option Refusal) (x y : Outcome S) → (a ≡ None → b ≡ None → BothAnswered x y → SameAnswer x y) → BothAnswered (unless a m x) (unless b n y) → SameAnswer (unless a m x) (unless b n y)
  both_unless (Some refusal) b x y h e = absurd (true≢false (sym e.first))
  both_unless None (Some refusal) x y h e = absurd (true≢false (sym e.second))
  both_unless None None x y h e = h refl refl e

  -- where both answer, each store is that of the scan without end
  both_asked : keeps hops ≡ true → BothAnswered (asked f hops stops paths q m) (asked f hops stops paths q n) → SameAnswer (asked f hops stops paths q m) (asked f hops stops paths q n)
  both_asked rule = both_unless (fault_of q stops paths hops (length m.sheet) (length m.legs)) (fault_of q stops paths hops (length n.sheet) (length n.legs))
      (scanned f q.destination m (scan_for f hops paths q m.labels m.aboard)) (scanned f q.destination n (scan_for f hops paths q n.labels n.aboard))
      (λ a b. both_scanned (scan∞ (setup_of f hops paths q) q.rides) (scan_for f hops paths q m.labels m.aboard) (scan_for f hops paths q n.labels n.aboard)
      (store_is f q stops paths hops (length m.sheet) (length m.legs) rule (limits q stops paths hops (length m.sheet) (length m.legs) a) m.labels m.aboard)
      (store_is f q stops paths hops (length n.sheet) (length n.legs) rule (limits q stops paths hops (length n.sheet) (length n.legs) b) n.labels n.aboard))

-- the same answer is the same sheet
never_differs : {S : Type 0} (o p : Outcome S) → SameAnswer o p → NeverDiffers (compared o p)
never_differs o p e = go o.answer p.answer e.answer e.written
  where
    go : (r s : Result Answer Refusal) → r ≡ s → AnsweredAlike r o.left p.left → NeverDiffers (compared_sheets r o.left.sheet s p.left.sheet)
    go (Err x) s d w = tt
    go (Ok a) (Err x) d w = let z : ◌≡◌ {A = ℕ} 0 1 = cc in absurd (omega arith)
    go (Ok a) (Ok c) d w =
        let same : a ≡ c = cc in
        (bytes_eq-Decides (take a.bytes o.left.sheet) (take c.bytes p.left.sheet)).1 (w.sheet ∙ ap (λ (x : Answer). take x.bytes p.left.sheet) same)

module _ {K W : Type 0} (b : Basis K W) (rule : keeps b.hops ≡ true) where
  -- a log leaves both memories the same room
  pub same_room_same_answer : (log : List Entry) (q : Question) (m n : Memory (FareState K W)) → SameRoom m n → SameAnswer (asked_after b log q m) (asked_after b log q n)
  same_room_same_answer log q m n e =
      let d = day_after (trips_of b.hops) first_day log in
      let u = log_sizes b rule first_day m log in
      let v = log_sizes b rule first_day n log in
      asked_alike (fare_of b) (meant_on d b.hops) b.stops b.paths q (memory_after b first_day m log) (memory_after b first_day n log)
      (record {
        labels = v.labels ∙ e.labels ∙ sym u.labels;
        aboard = v.aboard ∙ e.aboard ∙ sym u.aboard;
        sheet = v.sheet ∙ e.sheet ∙ sym u.sheet;
        legs = v.legs ∙ e.legs ∙ sym u.legs;
      })

  -- an answer after a log is the same in any room
  both_answered_same : (log : List Entry) (q : Question) (m n : Memory (FareState K W)) → BothAnswered (asked_after b log q m) (asked_after b log q n) → SameAnswer (asked_after b log q m) (asked_after b log q n)
  both_answered_same log q m n =
      let d = day_after (trips_of b.hops) first_day log in
      both_asked (fare_of b) (meant_on d b.hops) b.stops b.paths q (memory_after b first_day m log) (memory_after b first_day n log) (both_keep d.cancelled d.delay b.hops rule)

  over_one : (log : List Entry) (q : Question) (m n : Memory (FareState K W)) (r : Result Bool Refused) → r ≡ compared (asked_after b log q m) (asked_after b log q n) → AnswerAlike m n (asked_after b log q m) (asked_after b log q n) r
  over_one log q m n r d =
      let o = asked_after b log q m in
      let p = asked_after b log q n in
      let told : SameAnswer o p → SameAnswer o p × NeverDiffers r = λ same. (same, subst NeverDiffers (sym d) (never_differs o p same)) in
      record { in_any_room = λ e. told (both_answered_same log q m n e); in_same_room = λ e. told (same_room_same_answer log q m n e) }

  -- and so do two boards, compared
  pub asked_alike_answer_alike : (log : List Entry) (q : Question) (m : Memory (FareState K W)) (c : Basis K W) (other : List Entry) (p : Question) (n : Memory (FareState K W)) (r : Result Bool Refused) → r ≡ compared (asked_after b log q m) (asked_after c other p n)
      → AskedAlike b log q c other p → AnswerAlike m n (asked_after b log q m) (asked_after c other p n) r
  asked_alike_answer_alike log q m c other p n r d e =
      let Goal : Basis K W → List Entry → Question → Type 0 = λ z l x. r ≡ compared (asked_after b log q m) (asked_after z l x n) → AnswerAlike m n (asked_after b log q m) (asked_after z l x n) r in
      subst (λ (z : Basis K W). Goal z other p) e.basis (subst₂ (λ (l : List Entry) (x : Question). Goal b l x) e.entries e.question (over_one log q m n r)) d
