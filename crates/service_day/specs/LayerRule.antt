-- A layer that keeps each hop's trip, limits and joins keeps the timetable rule. (The proofs stand here, and not in proofs/, since impls cite them.)
-- Assumes nothing.
use Rattle.std.specs.Prelude.{◌≡◌, ℕ, ◌+◌, Bool, true, false, cond, ◌&&◌, ◌||◌, List, [], ◌∷◌, map, Some, None, Option, ◌==◌, nat_eq, nat_le, nat_lt, refl}
use Rattle.std.proofs.Common.{sym, ◌∙◌, ap, subst, arith}
use Rattle.std.proofs.lemmas.Bool.{and_parts, and_from, leb-true, ltb-false, true≢false}
use Rattle.timetable.specs.declared.hops.Hop.{Hop}
use Rattle.timetable.specs.Rule.{day_end, fit, joined, next_trip, may_stand_after, keeps_after, keeps}
use Rattle.service_day.specs.Changes.{halted, later, cancelled_by, moved, delayed_by}
use Rattle.timetable.specs.RuleFacts.{fit_limits, fit_tested, joined_meets, joined_tested}

-- keeps each hop's trip, keeps what a running hop owes, and keeps neighbours together
pub record Gentle (f : Hop → Hop) : Type 0 where
  pub trip : (h : Hop) → (f h).trip ≡ h.trip
  pub fits : (h : Hop) → fit h ≡ true → fit (f h) ≡ true
  pub joins : (g h : Hop) → joined g h ≡ true → joined (f g) (f h) ≡ true

module _ (f : Hop → Hop) where
  abbrev pub changed : Option Hop → Option Hop
  changed None = None
  changed (Some h) = Some (f h)

  module _ (gentle : Gentle f) where
    follows : (before : Option Hop) (h : Hop) → may_stand_after before h ≡ true → may_stand_after (changed before) (f h) ≡ true
    follows None h e =
        let p = and_parts (h.trip == 0) (fit h) e in
        and_from _ _ (ap (λ t. nat_eq t 0) (gentle.trip h) ∙ p.0) (gentle.fits h p.1)
    follows (Some g) h e =
        let p = and_parts (next_trip g h) _ e in
        let q = and_parts (fit h) (joined g h) p.1 in
        and_from _ _
        (ap (λ t. (t == (f g).trip) || t == (f g).trip + 1) (gentle.trip h) ∙ ap (λ t. (h.trip == t) || h.trip == t + 1) (gentle.trip g) ∙ p.0)
        (and_from _ _ (gentle.fits h q.0) (gentle.joins g h q.1))

    keeps_changed : (before : Option Hop) (hs : List Hop) → keeps_after before hs ≡ true → keeps_after (changed before) (map f hs) ≡ true
    keeps_changed before [] k = refl
    keeps_changed before (h ∷ hs) k =
        let p = and_parts (may_stand_after before h) _ k in
        and_from _ _ (follows before h p.0) (keeps_changed (Some h) hs p.1)

    pub layer_keeps : (hs : List Hop) → keeps hs ≡ true → keeps (map f hs) ≡ true
    layer_keeps hs k = keeps_changed None hs k

-- Cancelled trips.

halted_left : (g h : Hop) → joined (halted g) h ≡ true
halted_left g h = joined_tested (halted g) h (λ t p q. absurd (true≢false (sym p)))

halted_right : (g h : Hop) → joined g (halted h) ≡ true
halted_right g h = joined_tested g (halted h) (λ t p q. absurd (true≢false (sym q)))

module _ (off : ℕ → Bool) where
  cancelled_trip : (h : Hop) → (cancelled_by off h).trip ≡ h.trip
  cancelled_trip h = go (off h.trip)
    where
      go : (b : Bool) → (cond b (halted h) h).trip ≡ h.trip
      go true = refl
      go false = refl

  cancelled_fits : (h : Hop) → fit h ≡ true → fit (cancelled_by off h) ≡ true
  cancelled_fits h e = go (off h.trip)
    where
      go : (b : Bool) → fit (cond b (halted h) h) ≡ true
      go true = refl
      go false = e

  cancelled_joins : (g h : Hop) → joined g h ≡ true → joined (cancelled_by off g) (cancelled_by off h) ≡ true
  cancelled_joins g h e = go (off g.trip) (off h.trip)
    where
      go : (a b : Bool) → joined (cond a (halted g) g) (cond b (halted h) h) ≡ true
      go true true = halted_left g (halted h)
      go true false = halted_left g h
      go false true = halted_right g h
      go false false = e

  pub cancelled_gentle : Gentle (cancelled_by off)
  cancelled_gentle = record { trip = cancelled_trip; fits = cancelled_fits; joins = cancelled_joins }

-- Late trips.

-- a hop that still runs once it is moved ran before, and is exactly so much later
pub record Later (s : ℕ) (h k : Hop) : Type 0 where
  pub ran : h.runs ≡ true
  pub from : k.from ≡ h.from
  pub to : k.to ≡ h.to
  pub departs : k.departure ≡ h.departure + s
  pub arrives : k.arrival ≡ h.arrival + s

moved_later : (s : ℕ) (h : Hop) → (moved s h).runs ≡ true → Later s h (moved s h)
moved_later s h r = go (h.runs && nat_lt 0 s) (nat_le (h.arrival + s) day_end) refl r
  where
    unmoved : h.runs ≡ true → (h.runs && nat_lt 0 s) ≡ false → s ≡ 0
    unmoved p e = let z = ltb-false 0 s (subst (λ b. (b && nat_lt 0 s) ≡ false) p e) in omega arith

    go : (b c : Bool) → (h.runs && nat_lt 0 s) ≡ b → (cond b (cond c (later s h) (halted h)) h).runs ≡ true → Later s h (cond b (cond c (later s h) (halted h)) h)
    go true true e p = record { ran = p; from = refl; to = refl; departs = refl; arrives = refl }
    go true false e p = absurd (true≢false (sym p))
    go false c e p = let z = unmoved p e in record { ran = p; from = refl; to = refl; departs = omega arith; arrives = omega arith }

moved_fits : (s : ℕ) (h : Hop) → fit h ≡ true → fit (moved s h) ≡ true
moved_fits s h e = go (h.runs && nat_lt 0 s) (nat_le (h.arrival + s) day_end) refl
  where
    go : (b c : Bool) → nat_le (h.arrival + s) day_end ≡ c → fit (cond b (cond c (later s h) (halted h)) h) ≡ true
    go true true t = fit_tested (later s h) (λ r.
        let l = fit_limits h e r in
        let early = leb-true (h.arrival + s) day_end t in
        record { forward = omega arith; by_the_end = early; short = l.short; eight_levels = l.eight_levels; sixteen_events = l.sixteen_events })
    go true false t = refl
    go false c t = e

moved_trip : (s : ℕ) (h : Hop) → (moved s h).trip ≡ h.trip
moved_trip s h = go (h.runs && nat_lt 0 s) (nat_le (h.arrival + s) day_end)
  where
    go : (b c : Bool) → (cond b (cond c (later s h) (halted h)) h).trip ≡ h.trip
    go true true = refl
    go true false = refl
    go false c = refl

-- both hops are of one trip, so both are moved by the same time
delayed_joins : (late : ℕ → ℕ) (g h : Hop) → joined g h ≡ true → joined (delayed_by late g) (delayed_by late h) ≡ true
delayed_joins late g h e = joined_tested (delayed_by late g) (delayed_by late h) (λ t p q.
    let same : h.trip ≡ g.trip = sym (moved_trip (late h.trip) h) ∙ t ∙ moved_trip (late g.trip) g in
    let a = moved_later (late g.trip) g p in
    let b = moved_later (late h.trip) h q in
    let m = joined_meets g h e same a.ran b.ran in
    let by : late h.trip ≡ late g.trip = ap late same in
    (a.to ∙ m.0 ∙ sym b.from, omega (arith, m.1, a.arrives, b.departs, by)))

pub delayed_gentle : (late : ℕ → ℕ) → Gentle (delayed_by late)
delayed_gentle late = record {
  trip = λ h. moved_trip (late h.trip) h;
  fits = λ h. moved_fits (late h.trip) h;
  joins = delayed_joins late;
}

-- Both, one over the other.
pub both_keep : (off : ℕ → Bool) (late : ℕ → ℕ) (hs : List Hop) → keeps hs ≡ true → keeps (map (delayed_by late) (map (cancelled_by off) hs)) ≡ true
both_keep off late hs k =
    layer_keeps (delayed_by late) (delayed_gentle late) (map (cancelled_by off) hs)
    (layer_keeps (cancelled_by off) (cancelled_gentle off) hs k)
