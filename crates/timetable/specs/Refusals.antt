-- The number of each refusal, and the values that are returned with it.
-- Assumes nothing.
use Rattle.std.specs.Prelude.{ℕ, List, [], ◌∷◌}
use Rattle.timetable.specs.declared.refusals.Refusal.{Refusal}
use Rattle.timetable.specs.declared.refusals.Refusal.TheVariants.{BrokenRule, IntervalLimits}

-- a number, and the values returned with it
pub record Cause : Type 0 where
  pub number : ℕ
  pub values : List ℕ

-- 1 with the first place that breaks the rule; 2 with no more
abbrev pub cause : Refusal → Cause
cause (BrokenRule place) = record { number = 1; values = place ∷ [] }
cause IntervalLimits = record { number = 2; values = [] }
