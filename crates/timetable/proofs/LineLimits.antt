-- The test of a line's limits is the limits in plain facts.
use Rattle.std.proofs.Common.{◌≡◌, ℕ, zero, suc, ◌+◌, ◌*◌, ◌<◌, ◌≤◌, Bool, true, false, ◌&&◌, eqb, leb, List, [], ◌∷◌, length, Some, None, Option, sym, refl, ◌∙◌, subst, arith}
use Rattle.std.specs.List.{slice_get}
use Rattle.std.proofs.lemmas.Bool.{and_parts, and_from, leb-true, le-leb, eqb-true, eq-eqb, true≢false}
use Rattle.timetable.specs.declared.hops.Hop.{Hop}
use Rattle.timetable.specs.Line.{most_pattern, shortest_interval, longest_interval, most_trips, hops_of_first_trip, arriving_by, all_arrive, line_allowed, Allowed, Tested, outside}
use Rattle.timetable.specs.LineFacts.{passed}
use Rattle.timetable.specs.Rule.{day_end}
use Rattle.timetable.specs.RuleFacts.{rule_kept, rule_tested}
use Rattle.timetable.proofs.Lines.{trip_arrives}

-- nothing stands at a place of no hops
nowhere : {A : Type 0} (h : Hop) → ◌≡◌ {A = Option Hop} None (Some h) → A
nowhere h e = let z : ◌≡◌ {A = ℕ} 0 1 = cc in absurd (omega arith)

same_hop : (g h : Hop) → ◌≡◌ {A = Option Hop} (Some g) (Some h) → g ≡ h
same_hop g h e = cc

-- each hop runs and is of trip 0
first_at : (hs : List Hop) (i : ℕ) (h : Hop) → hops_of_first_trip hs ≡ true → slice_get hs i ≡ Some h → (h.runs ≡ true) × (h.trip ≡ 0)
first_at [] i h k e = nowhere h e
first_at (g ∷ hs) zero h k e =
    let p = and_parts g.runs _ (and_parts (g.runs && eqb g.trip 0) _ k).0 in
    subst (λ x. (x.runs ≡ true) × (x.trip ≡ 0)) (same_hop g h e) (p.0, eqb-true g.trip 0 p.1)
first_at (g ∷ hs) (suc i) h k e = first_at hs i h (and_parts (g.runs && eqb g.trip 0) _ k).1 e

first_tested : (hs : List Hop) → ((i : ℕ) (h : Hop) → slice_get hs i ≡ Some h → (h.runs ≡ true) × (h.trip ≡ 0)) → hops_of_first_trip hs ≡ true
first_tested [] f = refl
first_tested (h ∷ hs) f =
    let here = f 0 h refl in
    and_from _ _ (and_from _ _ here.0 (eq-eqb h.trip 0 here.1)) (first_tested hs (λ i. f (suc i)))

-- each hop arrives by the day's end, so much later
arrive_by_at : (later : ℕ) (hs : List Hop) (i : ℕ) (h : Hop) → arriving_by later hs ≡ true → slice_get hs i ≡ Some h → h.arrival + later ≤ day_end
arrive_by_at later [] i h k e = nowhere h e
arrive_by_at later (g ∷ hs) zero h k e =
    subst (λ x. x.arrival + later ≤ day_end) (same_hop g h e) (leb-true (g.arrival + later) day_end (and_parts (leb (g.arrival + later) day_end) _ k).0)
arrive_by_at later (g ∷ hs) (suc i) h k e = arrive_by_at later hs i h (and_parts (leb (g.arrival + later) day_end) _ k).1 e

arrive_by_tested : (later : ℕ) (hs : List Hop) → ((i : ℕ) (h : Hop) → slice_get hs i ≡ Some h → h.arrival + later ≤ day_end) → arriving_by later hs ≡ true
arrive_by_tested later [] f = refl
arrive_by_tested later (h ∷ hs) f = and_from _ _ (le-leb (h.arrival + later) day_end (f 0 h refl)) (arrive_by_tested later hs (λ i. f (suc i)))

all_arrive_tested : (pattern : List Hop) (interval n : ℕ) → ((t i : ℕ) (h : Hop) → t < n → slice_get pattern i ≡ Some h → h.arrival + t * interval ≤ day_end) → all_arrive pattern interval n ≡ true
all_arrive_tested pattern interval zero f = refl
all_arrive_tested pattern interval (suc n) f =
    and_from _ _ (arrive_by_tested (n * interval) pattern (λ i h. f n i h (omega arith)))
    (all_arrive_tested pattern interval n (λ t i h l. f t i h (omega arith)))

-- the test and the facts
pub allowed_kept : (pattern : List Hop) (interval trips : ℕ) → line_allowed pattern interval trips ≡ true → Allowed pattern interval trips
allowed_kept pattern interval trips e =
    let p = passed pattern interval trips e in
    record {
      some = p.some;
      few = p.few;
      apart = p.apart;
      near = p.near;
      runs = p.runs;
      limited = p.limited;
      rule = rule_kept pattern p.kept;
      first = λ i h at. first_at pattern i h p.first at;
      arrive = λ t i h l at. arrive_by_at (t * interval) pattern i h (trip_arrives pattern interval trips t l p.arrive) at;
    }

pub allowed_tested : (pattern : List Hop) (interval trips : ℕ) → Allowed pattern interval trips → line_allowed pattern interval trips ≡ true
allowed_tested pattern interval trips a =
    and_from _ _ (and_from _ _ (le-leb 1 (length pattern) a.some) (le-leb (length pattern) most_pattern a.few))
    (and_from _ _ (and_from _ _ (le-leb shortest_interval interval a.apart) (le-leb interval longest_interval a.near))
    (and_from _ _ (and_from _ _ (le-leb 1 trips a.runs) (le-leb trips most_trips a.limited))
    (and_from _ _ (rule_tested pattern a.rule)
    (and_from _ _ (first_tested pattern a.first) (all_arrive_tested pattern interval trips a.arrive)))))

pub tested : (pattern : List Hop) (interval trips : ℕ) (r : Bool) → r ≡ line_allowed pattern interval trips → Tested pattern interval trips r
tested pattern interval trips true e = allowed_kept pattern interval trips (sym e)
tested pattern interval trips false e = outside (λ a. true≢false (sym (allowed_tested pattern interval trips a) ∙ sym e))
