-- The tests before a scan find a fault exactly where its cause stands.
use Rattle.std.proofs.Common.{◌≡◌, ℕ, suc, ◌+◌, ◌<◌, ◌≤◌, Bool, true, false, cond, ◌||◌, ltb, leb, ◌⊎◌, List, [], ◌∷◌, ◌++◌, length, Some, None, Option, sym, refl, ap, ◌∙◌, subst, inl, inr, arith}
use Rattle.std.proofs.lemmas.Bool.{or_parts, or_cases, or_from, or_left, or_right, ltb-true, ltb-false, leb-true, leb-false, lt-ltb, le-ltb, le-leb, lt-leb, cond-true, cond-false, true≢false}
use Rattle.timetable.specs.declared.hops.Hop.{Hop}
use Rattle.timetable.specs.Rule.{day_end}
use Rattle.timetable.specs.Table.{most_hops, count_of}
use Rattle.journeys.specs.declared.network.Footpath.{Footpath}
use Rattle.journeys.specs.declared.network.Stop.{Stop}
use Rattle.journeys.specs.declared.question.Question.{Question as Asked}
use Rattle.journeys.specs.Fare.{FareModel}
use Rattle.journeys.specs.Lists.{Each}
use Rattle.sheet.specs.Format.{sheet_bytes}
use Rattle.sheet.specs.Refusals.{Cause}
use Rattle.planner.specs.declared.refusal.Field.{Field}
use Rattle.planner.specs.declared.refusal.Field.TheVariants.{Origin, Destination, Departure, Rides, Count}
use Rattle.planner.specs.declared.refusal.NetworkList.TheVariants.{Stops, Footpaths, Hops}
use Rattle.planner.specs.declared.refusal.OutputList.{OutputList}
use Rattle.planner.specs.declared.refusal.OutputList.TheVariants.{Sheet, Legs}
use Rattle.planner.specs.declared.refusal.Refusal.{Refusal}
use Rattle.planner.specs.declared.refusal.Refusal.TheVariants.{Question, Network, ShortOutput}
use Rattle.planner.specs.Acceptance.{StopOk, PathOk, HopOk, QuestionFits, ListFits, NetworkFits}
use Rattle.planner.specs.Causes.{FieldFails, no_origin, no_destination, late_departure, rides_outside, many_hops, FirstFails, ListFails, too_long, not_such, NotAnswered, field_fails, stops_fail, paths_fail, hops_fail, short_sheet, short_legs, store_full, aboard_full, many_offers}
use Rattle.planner.specs.Limits.{most_stops, most_paths, most_rides, most_legs, fault_of_question, stop_within, path_within, hop_within, first_bad, fault_of_stops, fault_of_paths, hops_fault, fault_of_network, fault_of_room, or_else, refused_by, fault_of}
use Rattle.planner.specs.Outcome.{Space}
use Rattle.planner.specs.Refusals.{field_number, cause}
use Rattle.planner.proofs.Askables.{by_none, stop_ok, stop_tested, path_ok, path_tested, hop_ok, hop_tested, question_fits, question_clear, stops_fit, stops_clear, paths_fit, paths_clear, all_tested, network_fits, network_clear}

-- what is found was found first, or later
else_some : {A : Type 0} (a b : Option A) (r : A) → or_else a b ≡ Some r → (a ≡ Some r) ⊎ ((a ≡ None) × (b ≡ Some r))
else_some None b r e = inr (refl, e)
else_some (Some x) b r e = inl e

by_some : {A : Type 0} (g : A → Refusal) (o : Option A) (r : Refusal) → refused_by g o ≡ Some r → (x : A) × (o ≡ Some x) × (g x ≡ r)
by_some g None r e = absurd (let z : ◌≡◌ {A = ℕ} 0 1 = cc in omega arith)
by_some g (Some x) r e = (x, refl, (let z : g x ≡ r = cc in z))

cond_some : {A : Type 0} (b : Bool) (x : A) (rest : Option A) (y : A) → cond b (Some x) rest ≡ Some y → ((b ≡ true) × (x ≡ y)) ⊎ ((b ≡ false) × (rest ≡ Some y))
cond_some true x rest y e = inl (refl, (let z : x ≡ y = cc in z))
cond_some false x rest y e = inr (refl, e)

-- The first field that cannot be asked.
module _ (q : Asked) (stops : ℕ) (hops : List Hop) where
  abbrev F : ℕ → Type 0
  F = FieldFails q stops (length hops)

  field_found : (field : Field) → fault_of_question q stops (count_of hops) ≡ Some field → F (field_number field)
  field_found field e = elim (cond_some (leb stops q.origin) Origin _ field e) [
    | inl a ↦ subst F (ap field_number a.1) (no_origin (leb-true _ _ a.0))
    | inr a ↦ second (lt-of a.0) a.1
  ]
    where
      lt-of : {m n : ℕ} → leb n m ≡ false → m < n
      lt-of h = leb-false _ _ h

      fifth : q.origin < stops → q.destination < stops → q.departure ≤ day_end → 1 ≤ q.rides → q.rides ≤ most_rides → cond (leb most_hops (count_of hops)) (Some Count) None ≡ Some field → F (field_number field)
      fifth o d t a b e = elim (cond_some (leb most_hops (count_of hops)) Count None field e) [
        | inl x ↦ subst F (ap field_number x.1) (many_hops o d t a b (let z = leb-true most_hops (count_of hops) x.0 in omega arith))
        | inr x ↦ absurd (let y = x.1 in let z : ◌≡◌ {A = ℕ} 0 1 = cc in omega arith)
      ]

      fourth : q.origin < stops → q.destination < stops → q.departure ≤ day_end → cond (ltb q.rides 1 || ltb most_rides q.rides) (Some Rides) (cond (leb most_hops (count_of hops)) (Some Count) None) ≡ Some field → F (field_number field)
      fourth o d t e = elim (cond_some (ltb q.rides 1 || ltb most_rides q.rides) Rides _ field e) [
        | inl x ↦ subst F (ap field_number x.1) (rides_outside o d t (elim (or_cases (ltb q.rides 1) (ltb most_rides q.rides) x.0) as (λ _. (q.rides < 1) ⊎ (most_rides < q.rides)) [ inl y ↦ inl (ltb-true _ _ y) | inr y ↦ inr (ltb-true _ _ y) ]))
        | inr x ↦ (let r = or_parts (ltb q.rides 1) (ltb most_rides q.rides) x.0 in fifth o d t (ltb-false _ _ r.0) (ltb-false _ _ r.1) x.1)
      ]

      third : q.origin < stops → q.destination < stops → cond (ltb day_end q.departure) (Some Departure) (cond (ltb q.rides 1 || ltb most_rides q.rides) (Some Rides) (cond (leb most_hops (count_of hops)) (Some Count) None)) ≡ Some field → F (field_number field)
      third o d e = elim (cond_some (ltb day_end q.departure) Departure _ field e) [
        | inl x ↦ subst F (ap field_number x.1) (late_departure o d (ltb-true _ _ x.0))
        | inr x ↦ fourth o d (ltb-false _ _ x.0) x.1
      ]

      second : q.origin < stops → cond (leb stops q.destination) (Some Destination) (cond (ltb day_end q.departure) (Some Departure) (cond (ltb q.rides 1 || ltb most_rides q.rides) (Some Rides) (cond (leb most_hops (count_of hops)) (Some Count) None))) ≡ Some field → F (field_number field)
      second o e = elim (cond_some (leb stops q.destination) Destination _ field e) [
        | inl x ↦ subst F (ap field_number x.1) (no_destination o (leb-true _ _ x.0))
        | inr x ↦ third o (lt-of x.0) x.1
      ]

  field_at : (k : ℕ) → F k → (field : Field) × (fault_of_question q stops (count_of hops) ≡ Some field) × (field_number field ≡ k)
  field_at k (no_origin a) = (Origin, cond-true (leb stops q.origin) _ _ (le-leb _ _ a), refl)
  field_at k (no_destination o a) = (Destination, cond-false (leb stops q.origin) _ _ (lt-leb _ _ o) ∙ cond-true (leb stops q.destination) _ _ (le-leb _ _ a), refl)
  field_at k (late_departure o d a) = (
    Departure,
    cond-false (leb stops q.origin) _ _ (lt-leb _ _ o) ∙ cond-false (leb stops q.destination) _ _ (lt-leb _ _ d) ∙ cond-true (ltb day_end q.departure) _ _ (lt-ltb _ _ a),
    refl,
  )
  field_at k (rides_outside o d t a) = (
    Rides,
    cond-false (leb stops q.origin) _ _ (lt-leb _ _ o) ∙ cond-false (leb stops q.destination) _ _ (lt-leb _ _ d) ∙ cond-false (ltb day_end q.departure) _ _ (le-ltb _ _ t)
        ∙ cond-true (ltb q.rides 1 || ltb most_rides q.rides) _ _ (either a),
    refl,
  )
    where
      either : (q.rides < 1) ⊎ (most_rides < q.rides) → (ltb q.rides 1 || ltb most_rides q.rides) ≡ true
      either (inl x) = or_left (ltb q.rides 1) (ltb most_rides q.rides) (lt-ltb _ _ x)
      either (inr x) = or_right (ltb q.rides 1) (ltb most_rides q.rides) (lt-ltb _ _ x)
  field_at k (many_hops o d t a b c) = (
    Count,
    cond-false (leb stops q.origin) _ _ (lt-leb _ _ o) ∙ cond-false (leb stops q.destination) _ _ (lt-leb _ _ d) ∙ cond-false (ltb day_end q.departure) _ _ (le-ltb _ _ t)
        ∙ cond-false (ltb q.rides 1 || ltb most_rides q.rides) _ _ (or_from _ _ (le-ltb _ _ a) (le-ltb _ _ b)) ∙ cond-true (leb most_hops (count_of hops)) _ _ (le-leb _ _ (omega arith)),
    refl,
  )

-- The first of a list that is not such.
module _ {A : Type 0} (P : A → Type 0) (test : A → Bool) (is_such : (x : A) → test x ≡ true → P x) (is_tested : (x : A) → P x → test x ≡ true) where
  first_found : (i : ℕ) (xs : List A) (at : ℕ) → first_bad test i xs ≡ Some at → (k : ℕ) × (at ≡ i + k) × FirstFails P xs k
  first_found i [] at e = absurd (let z : ◌≡◌ {A = ℕ} 0 1 = cc in omega arith)
  first_found i (x ∷ xs) at e = go (test x) refl e (λ e. first_found (suc i) xs at e)
    where
      go : (b : Bool) → test x ≡ b → cond b (first_bad test (suc i) xs) (Some i) ≡ Some at → (first_bad test (suc i) xs ≡ Some at → (k : ℕ) × (at ≡ suc i + k) × FirstFails P xs k) → (k : ℕ) × (at ≡ i + k) × FirstFails P (x ∷ xs) k
      go true t e more =
          let m = more e in
          (suc m.0, omega (arith, m.1), record { front = x ∷ m.2.front; thing = m.2.thing; back = m.2.back; is = ap (λ l. x ∷ l) m.2.is; at = ap suc m.2.at; such = (is_such x t, m.2.such); fails = m.2.fails })
      go false t e more =
          let z : i ≡ at = cc in
          (0, omega arith, record { front = []; thing = x; back = xs; is = refl; at = refl; such = tt; fails = λ p. true≢false (sym (is_tested x p) ∙ t) })

  front_passes : (i : ℕ) (front : List A) (x : A) (back : List A) → Each P front → (P x → ⊥) → first_bad test i (front ++ x ∷ back) ≡ Some (i + length front)
  front_passes i [] x back e f = go (test x) refl
    where
      go : (b : Bool) → test x ≡ b → cond b (first_bad test (suc i) back) (Some i) ≡ Some (i + 0)
      go true t = absurd (f (is_such x t))
      go false t = let z : i ≡ i + 0 = omega arith in ap Some z
  front_passes i (y ∷ front) x back e f =
      let z : suc i + length front ≡ i + length (y ∷ front) = omega arith in
      ap (λ b. cond b (first_bad test (suc i) (front ++ x ∷ back)) (Some i)) (is_tested y e.0) ∙ front_passes (suc i) front x back e.1 f ∙ ap Some z

  first_at : (xs : List A) (k : ℕ) → FirstFails P xs k → first_bad test 0 xs ≡ Some k
  first_at xs k f = let z : 0 + length f.front ≡ k = omega (arith, f.at) in ap (first_bad test 0) f.is ∙ front_passes 0 f.front f.thing f.back f.such f.fails ∙ ap Some z

  first_is : (xs : List A) (k : ℕ) → first_bad test 0 xs ≡ Some k → FirstFails P xs k
  first_is xs k e = let m = first_found 0 xs k e in let z : m.0 ≡ k = omega (arith, m.1) in subst (FirstFails P xs) z m.2

  list_found : (most : ℕ) (xs : List A) (at : ℕ) → cond (ltb most (length xs)) (Some (length xs)) (first_bad test 0 xs) ≡ Some at → ListFails P most xs at
  list_found most xs at e = elim (cond_some (ltb most (length xs)) (length xs) (first_bad test 0 xs) at e) [
    | inl a ↦ subst (ListFails P most xs) a.1 (too_long (ltb-true _ _ a.0))
    | inr a ↦ not_such at (ltb-false _ _ a.0) (first_is xs at a.1)
  ]

  list_at : (most : ℕ) (xs : List A) (at : ℕ) → ListFails P most xs at → cond (ltb most (length xs)) (Some (length xs)) (first_bad test 0 xs) ≡ Some at
  list_at most xs at (too_long h) = cond-true (ltb most (length xs)) _ _ (lt-ltb _ _ h)
  list_at most xs at (not_such place few f) = cond-false (ltb most (length xs)) _ _ (le-ltb _ _ few) ∙ first_at xs place f

module _ {S : Type 0} (f : FareModel S) (hops : List Hop) (stops : List Stop) (paths : List Footpath) (q : Asked) (space : Space) where
  abbrev N : Cause → Type 0
  N = NotAnswered f hops stops paths q space

  abbrev Asks : Type 0
  Asks = QuestionFits q (length stops) (length hops)

  abbrev fault : Option Refusal
  fault = fault_of q stops paths hops space.sheet space.legs

  -- a fault has its cause
  network_cause : Asks → (r : Refusal) → fault_of_network stops paths hops ≡ Some r → N (cause r)
  network_cause asks r e = elim (else_some (refused_by (Network Stops) (fault_of_stops stops)) _ r e) [
    | inl a ↦ (let x = by_some (Network Stops) (fault_of_stops stops) r a in subst (λ r. N (cause r)) x.2 (stops_fail x.0 asks (list_found StopOk stop_within stop_ok stop_tested most_stops stops x.0 x.1)))
    | inr a ↦ second (stops_fit stops (by_none (Network Stops) (fault_of_stops stops) a.0)) a.1
  ]
    where
      second : ListFits StopOk most_stops stops → or_else (refused_by (Network Footpaths) (fault_of_paths (length stops) paths)) (refused_by (Network Hops) (hops_fault (length stops) hops)) ≡ Some r → N (cause r)
      second s e = elim (else_some (refused_by (Network Footpaths) (fault_of_paths (length stops) paths)) _ r e) [
        | inl a ↦ (let x = by_some (Network Footpaths) (fault_of_paths (length stops) paths) r a in
            subst (λ r. N (cause r)) x.2 (paths_fail x.0 asks s (list_found (PathOk (length stops)) (path_within (length stops)) (path_ok (length stops)) (path_tested (length stops)) most_paths paths x.0 x.1)))
        | inr a ↦ (let x = by_some (Network Hops) (hops_fault (length stops) hops) r a.1 in
            let y = sym (all_tested (length stops) hops asks.few_hops) ∙ x.1 in
            subst (λ r. N (cause r)) x.2 (hops_fail x.0 asks s (paths_fit (length stops) paths (by_none (Network Footpaths) (fault_of_paths (length stops) paths) a.0))
            (first_is (HopOk (length stops)) (hop_within (length stops)) (hop_ok (length stops)) (hop_tested (length stops)) hops x.0 y)))
      ]

  room_cause : Asks → NetworkFits stops paths hops → (o : OutputList) → fault_of_room space.sheet space.legs ≡ Some o → N (cause (ShortOutput o))
  room_cause asks fits o e = elim (cond_some (ltb space.sheet sheet_bytes) Sheet _ o e) [
    | inl a ↦ subst (λ o. N (cause (ShortOutput o))) a.1 (short_sheet asks fits (ltb-true _ _ a.0))
    | inr a ↦ elim (cond_some (ltb space.legs most_legs) Legs None o a.1) [
      | inl b ↦ subst (λ o. N (cause (ShortOutput o))) b.1 (short_legs asks fits (ltb-false _ _ a.0) (ltb-true _ _ b.0))
      | inr b ↦ absurd (let y = b.1 in let z : ◌≡◌ {A = ℕ} 0 1 = cc in omega arith)
    ]
  ]

  pub fault_cause : (r : Refusal) → fault ≡ Some r → N (cause r)
  unfolding fault_of
  fault_cause r e = elim (else_some (refused_by Question (fault_of_question q (length stops) (count_of hops))) _ r e) [
    | inl a ↦ (let x = by_some Question (fault_of_question q (length stops) (count_of hops)) r a in subst (λ r. N (cause r)) x.2 (field_fails (field_number x.0) (field_found q (length stops) hops x.0 x.1)))
    | inr a ↦ (let asks = question_fits q (length stops) hops (by_none Question (fault_of_question q (length stops) (count_of hops)) a.0) in
        elim (else_some (fault_of_network stops paths hops) _ r a.1) [
          | inl b ↦ network_cause asks r b
          | inr b ↦ (let x = by_some ShortOutput (fault_of_room space.sheet space.legs) r b.1 in
              subst (λ r. N (cause r)) x.2 (room_cause asks (network_fits stops paths hops asks.few_hops b.0) x.0 x.1))
        ])
  ]

  -- the causes that the tests before a scan find
  abbrev pub Early : (c : Cause) → N c → Type 0
  Early c (field_fails k x) = Unit {0}
  Early c (stops_fail at a x) = Unit {0}
  Early c (paths_fail at a s x) = Unit {0}
  Early c (hops_fail at a s p x) = Unit {0}
  Early c (short_sheet a n x) = Unit {0}
  Early c (short_legs a n b x) = Unit {0}
  Early c (store_full a x y) = ⊥
  Early c (aboard_full hop a x) = ⊥
  Early c (many_offers n a x y z) = ⊥

  -- such a cause is that of the fault
  pub fault_at : (c : Cause) → (n : N c) → Early c n → (e : Refusal) × (fault ≡ Some e) × (cause e ≡ c)
  unfolding fault_of
  fault_at c (field_fails k x) y = let z = field_at q (length stops) hops k x in (Question z.0, found z.1, ap (λ (n : ℕ). record { number = 9; values = n ∷ [] }) z.2)
    where
      found : {field : Field} → fault_of_question q (length stops) (count_of hops) ≡ Some field → fault ≡ Some (Question field)
      found e = ap (λ o. or_else (refused_by Question o) (or_else (fault_of_network stops paths hops) (refused_by ShortOutput (fault_of_room space.sheet space.legs)))) e
  fault_at c (stops_fail at a x) y =
      let s = list_at StopOk stop_within stop_ok stop_tested most_stops stops at x in
      (Network Stops at, (λ v. or_else (refused_by Question (question_clear q (length stops) hops a v)) (or_else (or_else (refused_by (Network Stops) (s v)) (or_else (refused_by (Network Footpaths) (fault_of_paths (length stops) paths)) (refused_by (Network Hops) (hops_fault (length stops) hops)))) (refused_by ShortOutput (fault_of_room space.sheet space.legs)))), refl)
  fault_at c (paths_fail at a s x) y =
      let p = list_at (PathOk (length stops)) (path_within (length stops)) (path_ok (length stops)) (path_tested (length stops)) most_paths paths at x in
      (Network Footpaths at, (λ v. or_else (refused_by Question (question_clear q (length stops) hops a v)) (or_else (or_else (refused_by (Network Stops) (stops_clear stops s v)) (or_else (refused_by (Network Footpaths) (p v)) (refused_by (Network Hops) (hops_fault (length stops) hops)))) (refused_by ShortOutput (fault_of_room space.sheet space.legs)))), refl)
  fault_at c (hops_fail at a s p x) y =
      let h = all_tested (length stops) hops a.few_hops ∙ first_at (HopOk (length stops)) (hop_within (length stops)) (hop_ok (length stops)) (hop_tested (length stops)) hops at x in
      (Network Hops at, (λ v. or_else (refused_by Question (question_clear q (length stops) hops a v)) (or_else (or_else (refused_by (Network Stops) (stops_clear stops s v)) (or_else (refused_by (Network Footpaths) (paths_clear (length stops) paths p v)) (refused_by (Network Hops) (h v)))) (refused_by ShortOutput (fault_of_room space.sheet space.legs)))), refl)
  fault_at c (short_sheet a n x) y =
      let r : fault_of_room space.sheet space.legs ≡ Some Sheet = cond-true (ltb space.sheet sheet_bytes) _ _ (lt-ltb _ _ x) in
      (ShortOutput Sheet, (λ v. or_else (refused_by Question (question_clear q (length stops) hops a v)) (or_else (network_clear stops paths hops a.few_hops n v) (refused_by ShortOutput (r v)))), refl)
  fault_at c (short_legs a n b x) y =
      let r : fault_of_room space.sheet space.legs ≡ Some Legs = cond-false (ltb space.sheet sheet_bytes) _ _ (le-ltb _ _ b) ∙ cond-true (ltb space.legs most_legs) _ _ (lt-ltb _ _ x) in
      (ShortOutput Legs, (λ v. or_else (refused_by Question (question_clear q (length stops) hops a v)) (or_else (network_clear stops paths hops a.few_hops n v) (refused_by ShortOutput (r v)))), refl)
  fault_at c (store_full a x z) y = absurd y
  fault_at c (aboard_full hop a x) y = absurd y
  fault_at c (many_offers n a x z u) y = absurd y
