-- The labels that a round has written so far.
-- Assumes nothing.
use Rattle.std.specs.Prelude.{ℕ, Bool, List, drop, ◌==◌}
use Rattle.std.specs.List.{list_all}
use Rattle.journeys.specs.declared.label.Label.{Label}

-- from a place on, all labels have so many rides
abbrev pub all_from : {S : Type 0} → ℕ → ℕ → List (Label S) → Bool
all_from place rides ls = list_all (λ l. l.rides == rides) (drop place ls)
