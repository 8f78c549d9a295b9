-- What a question's scan answers, and how many of the store's places are used then.
-- Assumes nothing.
use Rattle.std.specs.Prelude.{ℕ, length, Ok, Err, Result}
use Rattle.journeys.specs.declared.full.Full.{Full}
use Rattle.journeys.specs.Runs.{Run, on, ended}
use Rattle.journeys.specs.Scan.{Stage}

abbrev pub told : {S : Type 0} → Run (Stage S) → Result (Unit {0}) Full
told (on s) = Ok tt
told (ended q s) = Err q

abbrev pub used_after : {S : Type 0} → Run (Stage S) → ℕ
used_after (on s) = length s.store
used_after (ended q s) = 0
