-- The timetable rule as a test and as plain facts: each gives the other. (They stand here, and not in proofs/, since an impl cites them.)
-- Assumes nothing.
use Rattle.std.specs.Prelude.{◌≡◌, ℕ, zero, suc, ◌+◌, ◌≤◌, Bool, true, false, not, ◌&&◌, ◌||◌, ◌⊎◌, List, [], ◌∷◌, Some, None, Option, ◌==◌, nat_le, nat_lt, refl}
use Rattle.std.proofs.Common.{inl, inr, ⊎_elim, subst, arith}
use Rattle.std.specs.List.{slice_get}
use Rattle.std.proofs.lemmas.Bool.{and_parts, and_from, or_cases, or_left, or_right, ltb-true, leb-true, eqb-true, lt-ltb, le-leb, eq-eqb}
use Rattle.timetable.specs.declared.hops.Hop.{Hop}
use Rattle.timetable.specs.Rule.{day_end, most_metres, top_level, within_limits, fit, meets, joined, next_trip, may_stand_after, keeps_after, keeps, Limits, Rule}

pub limits_of : (h : Hop) → within_limits h ≡ true → Limits h
limits_of h e =
    let a = and_parts (nat_lt h.departure h.arrival) _ e in
    let b = and_parts (nat_le h.arrival day_end) _ a.1 in
    let c = and_parts (nat_le h.metres most_metres) _ b.1 in
    let d = and_parts (nat_le h.level top_level) _ c.1 in
    record {
      forward = ltb-true _ _ a.0;
      by_the_end = leb-true _ _ b.0;
      short = leb-true _ _ c.0;
      eight_levels = leb-true _ _ d.0;
      sixteen_events = leb-true _ _ d.1;
    }

pub limits_tested : (h : Hop) → Limits h → within_limits h ≡ true
limits_tested h l =
    and_from _ _ (lt-ltb _ _ l.forward) (and_from _ _ (le-leb _ _ l.by_the_end)
    (and_from _ _ (le-leb _ _ l.short) (and_from _ _ (le-leb _ _ l.eight_levels) (le-leb _ _ l.sixteen_events))))

-- a hop that runs, out of `not runs || within_limits`
pub fit_limits : (h : Hop) → fit h ≡ true → h.runs ≡ true → Limits h
fit_limits h e r = limits_of h (subst (λ b. (not b || within_limits h) ≡ true) r e)

pub fit_tested : (h : Hop) → (h.runs ≡ true → Limits h) → fit h ≡ true
fit_tested h f = go h.runs (λ e. limits_tested h (f e))
  where
    go : (b : Bool) → (b ≡ true → within_limits h ≡ true) → (not b || within_limits h) ≡ true
    go true k = k refl
    go false k = refl

pub joined_meets : (g h : Hop) → joined g h ≡ true → h.trip ≡ g.trip → g.runs ≡ true → h.runs ≡ true → (g.to ≡ h.from) × (g.arrival ≤ h.departure)
joined_meets g h e t p q =
    let m : meets g h ≡ true = subst (λ b. (not b || meets g h) ≡ true) (and_from _ _ (eq-eqb h.trip g.trip t) (and_from g.runs h.runs p q)) e in
    let ab = and_parts (g.to == h.from) _ m in
    (eqb-true _ _ ab.0, leb-true _ _ ab.1)

pub joined_tested : (g h : Hop) → (h.trip ≡ g.trip → g.runs ≡ true → h.runs ≡ true → (g.to ≡ h.from) × (g.arrival ≤ h.departure)) → joined g h ≡ true
joined_tested g h f = go (h.trip == g.trip && (g.runs && h.runs)) (λ e.
    let a = and_parts (h.trip == g.trip) _ e in
    let b = and_parts g.runs h.runs a.1 in
    let m = f (eqb-true _ _ a.0) b.0 b.1 in
    and_from _ _ (eq-eqb g.to h.from m.0) (le-leb g.arrival h.departure m.1))
  where
    go : (b : Bool) → (b ≡ true → meets g h ≡ true) → (not b || meets g h) ≡ true
    go true k = k refl
    go false k = refl

pub follow_fit : (before : Option Hop) (h : Hop) → may_stand_after before h ≡ true → fit h ≡ true
follow_fit None h e = (and_parts (h.trip == 0) (fit h) e).1
follow_fit (Some g) h e = (and_parts (fit h) (joined g h) (and_parts (next_trip g h) _ e).1).0

follow_trip : (g h : Hop) → may_stand_after (Some g) h ≡ true → (h.trip ≡ g.trip) ⊎ (h.trip ≡ g.trip + 1)
follow_trip g h e = ⊎_elim (λ p. inl (eqb-true _ _ p)) (λ p. inr (eqb-true _ _ p)) (or_cases (h.trip == g.trip) _ (and_parts (next_trip g h) _ e).0)

pub follow_joined : (g h : Hop) → may_stand_after (Some g) h ≡ true → joined g h ≡ true
follow_joined g h e = (and_parts (fit h) (joined g h) (and_parts (next_trip g h) _ e).1).1

-- the rule at the front, at a place, and at two neighbouring places
front : (before : Option Hop) (hs : List Hop) (h : Hop) → keeps_after before hs ≡ true → slice_get hs 0 ≡ Some h → may_stand_after before h ≡ true
front before [] h k e = absurd (let z : ◌≡◌ {A = ℕ} 0 1 = cc in omega arith)
front before (g ∷ hs) h k e = let s : g ≡ h = cc in subst (λ x. may_stand_after before x ≡ true) s (and_parts (may_stand_after before g) _ k).0

pub fit_at : (before : Option Hop) (hs : List Hop) (i : ℕ) (h : Hop) → keeps_after before hs ≡ true → slice_get hs i ≡ Some h → fit h ≡ true
fit_at before [] i h k e = absurd (let z : ◌≡◌ {A = ℕ} 0 1 = cc in omega arith)
fit_at before (g ∷ hs) zero h k e = follow_fit before h (front before (g ∷ hs) h k e)
fit_at before (g ∷ hs) (suc i) h k e = fit_at (Some g) hs i h (and_parts (may_stand_after before g) _ k).1 e

follows_at : (before : Option Hop) (hs : List Hop) (i : ℕ) (g h : Hop) → keeps_after before hs ≡ true → slice_get hs i ≡ Some g → slice_get hs (suc i) ≡ Some h → may_stand_after (Some g) h ≡ true
follows_at before [] i g h k e f = absurd (let z : ◌≡◌ {A = ℕ} 0 1 = cc in omega arith)
follows_at before (x ∷ hs) zero g h k e f =
    let s : x ≡ g = cc in
    subst (λ y. may_stand_after (Some y) h ≡ true) s (front (Some x) hs h (and_parts (may_stand_after before x) _ k).1 f)
follows_at before (x ∷ hs) (suc i) g h k e f = follows_at (Some x) hs i g h (and_parts (may_stand_after before x) _ k).1 e f

pub rule_kept : (hs : List Hop) → keeps hs ≡ true → Rule hs
rule_kept hs k = record {
  starts = λ h e. eqb-true _ _ (and_parts (h.trip == 0) (fit h) (front None hs h k e)).0;
  limits = λ i h e r. fit_limits h (fit_at None hs i h k e) r;
  goes_on = λ i g h e f. follow_trip g h (follows_at None hs i g h k e f);
  meet = λ i g h e f t p q. joined_meets g h (follow_joined g h (follows_at None hs i g h k e f)) t p q;
}

keeps_from : (before : Option Hop) (hs : List Hop) →
    ((h : Hop) → slice_get hs 0 ≡ Some h → may_stand_after before h ≡ true) →
    ((i : ℕ) (g h : Hop) → slice_get hs i ≡ Some g → slice_get hs (suc i) ≡ Some h → may_stand_after (Some g) h ≡ true) → keeps_after before hs ≡ true
keeps_from before [] first next = refl
keeps_from before (h ∷ hs) first next =
    and_from _ _ (first h refl) (keeps_from (Some h) hs (λ g e. next 0 h g refl e) (λ i. next (suc i)))

pub rule_tested : (hs : List Hop) → Rule hs → keeps hs ≡ true
rule_tested hs r = keeps_from None hs
    (λ h e. and_from _ _ (eq-eqb h.trip 0 (r.starts h e)) (fit_tested h (r.limits 0 h e)))
    (λ i g h e f. and_from _ _
    (⊎_elim (λ p. or_left _ _ (eq-eqb h.trip g.trip p)) (λ p. or_right (h.trip == g.trip) _ (eq-eqb h.trip (g.trip + 1) p)) (r.goes_on i g h e f))
    (and_from _ _ (fit_tested h (r.limits (suc i) h f)) (joined_tested g h (r.meet i g h e f))))
