-- What a scan asks of fares, whatever they are made of: S is the type of fare states.
-- Assumes nothing.
use Rattle.std.specs.Prelude.{◌≡◌, ℕ, zero, suc, ◌≤◌, Bool, true}
use Rattle.timetable.specs.declared.hops.Hop.{Hop}
use Rattle.timetable.specs.Rule.{Limits}

pub record FareModel (S : Type 0) : Type 0 where
  -- the state of a journey that starts at a stop
  pub start : ℕ → S
  -- after a change of vehicle
  pub change : S → S
  -- after a hop
  pub hop : Hop → S → S
  -- one state is at least as good as another, now and for ever
  pub covers : S → S → Bool
  -- in cents
  pub price : S → ℕ

-- the state to ride on with after so many rides: each ride but the first begins with a change
abbrev pub boarded : {S : Type 0} → FareModel S → ℕ → S → S
boarded f zero s = s
boarded f (suc rides) s = f.change s

-- What completeness needs of fares. Covering need not be reflexive. A hop is one that keeps what a running hop keeps: of other
-- hops nothing is asked.
pub record FareLaws {S : Type 0} (f : FareModel S) : Type 0 where
  pub transitive : (r s t : S) → f.covers r s ≡ true → f.covers s t ≡ true → f.covers r t ≡ true
  pub no_dearer : (s t : S) → f.covers s t ≡ true → f.price s ≤ f.price t
  pub change_keeps : (s t : S) → f.covers s t ≡ true → f.covers (f.change s) (f.change t) ≡ true
  pub hop_keeps : (h : Hop) (s t : S) → Limits h → f.covers s t ≡ true → f.covers (f.hop h s) (f.hop h t) ≡ true
