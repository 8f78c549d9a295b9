-- An allowed line keeps the timetable rule. (The proof stands here, and not in proofs/, since an impl cites it.)
-- Assumes nothing.
use Rattle.std.specs.Prelude.{◌≡◌, ℕ, zero, suc, ◌+◌, ◌*◌, ◌≤◌, true, ◌&&◌, List, [], ◌∷◌, ◌++◌, map, length, Some, None, Option, ◌==◌, nat_le, refl}
use Rattle.std.proofs.Common.{sym, ◌∙◌, ap, arith}
use Rattle.std.proofs.lemmas.Bool.{and_parts, and_from, or_left, or_right, leb-true, eqb-true, eq-eqb}
use Rattle.timetable.specs.declared.hops.Hop.{Hop}
use Rattle.timetable.specs.Line.{most_pattern, shortest_interval, longest_interval, most_trips, shifted, line, hops_of_first_trip, arriving_by, all_arrive, within_range, line_allowed}
use Rattle.timetable.specs.Rule.{day_end, fit, may_stand_after, keeps_after, keeps}
use Rattle.timetable.specs.RuleFacts.{fit_limits, fit_tested, joined_meets, joined_tested, follow_fit, follow_joined}
use Rattle.timetable.specs.Table.{last_after, trips_upto}

-- what a line inside its limits has passed
pub record Passed (pattern : List Hop) (interval trips : ℕ) : Type 0 where
  pub some : 1 ≤ length pattern
  pub few : length pattern ≤ most_pattern
  pub apart : shortest_interval ≤ interval
  pub near : interval ≤ longest_interval
  pub runs : 1 ≤ trips
  pub limited : trips ≤ most_trips
  pub kept : keeps pattern ≡ true
  pub first : hops_of_first_trip pattern ≡ true
  pub arrive : all_arrive pattern interval trips ≡ true

pub passed : (pattern : List Hop) (interval trips : ℕ) → line_allowed pattern interval trips ≡ true → Passed pattern interval trips
passed pattern interval trips e =
    let a = and_parts (within_range 1 most_pattern (length pattern)) _ e in
    let b = and_parts (within_range shortest_interval longest_interval interval) _ a.1 in
    let c = and_parts (within_range 1 most_trips trips) _ b.1 in
    let d = and_parts (keeps pattern) _ c.1 in
    let f = and_parts (hops_of_first_trip pattern) _ d.1 in
    let size = and_parts (nat_le 1 (length pattern)) _ a.0 in
    let pace = and_parts (nat_le shortest_interval interval) _ b.0 in
    let times = and_parts (nat_le 1 trips) _ c.0 in
    record {
      some = leb-true _ _ size.0;
      few = leb-true _ _ size.1;
      apart = leb-true _ _ pace.0;
      near = leb-true _ _ pace.1;
      runs = leb-true _ _ times.0;
      limited = leb-true _ _ times.1;
      kept = d.0;
      first = f.0;
      arrive = f.1;
    }

keeps_append : (before : Option Hop) (xs ys : List Hop) → keeps_after before xs ≡ true → keeps_after (last_after before xs) ys ≡ true → keeps_after before (xs ++ ys) ≡ true
keeps_append before [] ys k l = l
keeps_append before (x ∷ xs) ys k l =
    let p = and_parts (may_stand_after before x) _ k in
    and_from _ _ p.0 (keeps_append (Some x) xs ys p.1 l)

last_append : (before : Option Hop) (xs ys : List Hop) → last_after before (xs ++ ys) ≡ last_after (last_after before xs) ys
last_append before [] ys = refl
last_append before (x ∷ xs) ys = last_append (Some x) xs ys

-- a hop of the next trip may follow any hop
starts_trip : (before : Option Hop) (h : Hop) → trips_upto before ≡ h.trip → fit h ≡ true → may_stand_after before h ≡ true
starts_trip None h e f = and_from _ _ (eq-eqb h.trip 0 (sym e)) f
starts_trip (Some g) h e f =
    and_from _ _ (or_right (h.trip == g.trip) _ (eq-eqb h.trip (g.trip + 1) (sym e)))
    (and_from _ _ f (joined_tested g h (λ t p q. absurd (omega arith))))

module _ (t later : ℕ) where
  shifted_fit : (h : Hop) → fit h ≡ true → h.arrival + later ≤ day_end → fit (shifted t later h) ≡ true
  shifted_fit h e early = fit_tested (shifted t later h) (λ r.
      let l = fit_limits h e r in
      record { forward = omega arith; by_the_end = early; short = l.short; eight_levels = l.eight_levels; sixteen_events = l.sixteen_events })

  shifted_follows : (g h : Hop) → g.trip ≡ 0 → h.trip ≡ 0 → may_stand_after (Some g) h ≡ true → h.arrival + later ≤ day_end → may_stand_after (Some (shifted t later g)) (shifted t later h) ≡ true
  shifted_follows g h gt ht e early =
      and_from _ _ (or_left (t == t) _ (eq-eqb t t refl))
      (and_from _ _ (shifted_fit h (follow_fit (Some g) h e) early)
      (joined_tested (shifted t later g) (shifted t later h) (λ s p q.
      let m = joined_meets g h (follow_joined g h e) (ht ∙ sym gt) p q in
      (m.0, omega (arith, m.1)))))

  trip_goes_on : (g : Hop) (hs : List Hop) → g.trip ≡ 0 → keeps_after (Some g) hs ≡ true → hops_of_first_trip hs ≡ true → arriving_by later hs ≡ true →
      keeps_after (Some (shifted t later g)) (map (shifted t later) hs) ≡ true
  trip_goes_on g [] gt k o a = refl
  trip_goes_on g (h ∷ hs) gt k o a =
      let p = and_parts (may_stand_after (Some g) h) _ k in
      let q = and_parts (h.runs && h.trip == 0) _ o in
      let ht = eqb-true h.trip 0 (and_parts h.runs _ q.0).1 in
      let b = and_parts (nat_le (h.arrival + later) day_end) _ a in
      and_from _ _ (shifted_follows g h gt ht p.0 (leb-true _ _ b.0)) (trip_goes_on h hs ht p.1 q.1 b.1)

  trip_keeps : (before : Option Hop) (hs : List Hop) → trips_upto before ≡ t → keeps hs ≡ true → hops_of_first_trip hs ≡ true → arriving_by later hs ≡ true →
      keeps_after before (map (shifted t later) hs) ≡ true
  trip_keeps before [] e k o a = refl
  trip_keeps before (h ∷ hs) e k o a =
      let p = and_parts (may_stand_after None h) _ k in
      let q = and_parts (h.runs && h.trip == 0) _ o in
      let ht = eqb-true h.trip 0 (and_parts h.runs _ q.0).1 in
      let b = and_parts (nat_le (h.arrival + later) day_end) _ a in
      and_from _ _ (starts_trip before (shifted t later h) e (shifted_fit h (follow_fit None h p.0) (leb-true _ _ b.0)))
      (trip_goes_on h hs ht p.1 q.1 b.1)

  last_of_trip : (g : Hop) (hs : List Hop) → trips_upto (last_after (Some (shifted t later g)) (map (shifted t later) hs)) ≡ t + 1
  last_of_trip g [] = refl
  last_of_trip g (h ∷ hs) = last_of_trip h hs

-- a line of n trips has the numbers up to n
pub line_trips : (pattern : List Hop) (interval n : ℕ) → 1 ≤ length pattern → trips_upto (last_after None (line pattern interval n)) ≡ n
line_trips pattern interval zero some = refl
line_trips [] interval (suc n) some = absurd (omega arith)
line_trips (h ∷ hs) interval (suc n) some =
    ap trips_upto (last_append None (line (h ∷ hs) interval n) (map (shifted n (n * interval)) (h ∷ hs)))
    ∙ last_of_trip n (n * interval) h hs
    ∙ omega arith

line_keeps : (pattern : List Hop) (interval n : ℕ) → 1 ≤ length pattern → keeps pattern ≡ true → hops_of_first_trip pattern ≡ true → all_arrive pattern interval n ≡ true → keeps (line pattern interval n) ≡ true
line_keeps pattern interval zero some k o a = refl
line_keeps pattern interval (suc n) some k o a =
    let p = and_parts (arriving_by (n * interval) pattern) _ a in
    keeps_append None (line pattern interval n) (map (shifted n (n * interval)) pattern)
    (line_keeps pattern interval n some k o p.1)
    (trip_keeps n (n * interval) (last_after None (line pattern interval n)) pattern (line_trips pattern interval n some) k o p.0)

pub allowed_keeps : (pattern : List Hop) (interval trips : ℕ) → line_allowed pattern interval trips ≡ true → keeps (line pattern interval trips) ≡ true
allowed_keeps pattern interval trips e =
    let l = passed pattern interval trips e in
    line_keeps pattern interval trips l.some l.kept l.first l.arrive
