-- A log, entry by entry.
use Rattle.std.proofs.Common.{◌≡◌, ℕ, List, drop}
use Rattle.timetable.specs.Table.{trips_of}
use Rattle.fares.specs.declared.fare_state.FareState.{FareState}
use Rattle.service_day.specs.DayStates.{DayState}
use Rattle.planner.specs.Outcome.{Memory}
use Rattle.day_planner.specs.declared.entry.Entry.{Entry}
use Rattle.day_planner.specs.Log.{Basis, day_after, memory_after}

-- The run of a log began with the day and the memory `d₀` and `m₀`, and has come to `d` and `m` at the place i: the rest of
-- the log makes of these what the whole log makes of the first.
pub record Running {K W : Type 0} (b : Basis K W) (log : List Entry) (d₀ : DayState) (m₀ : Memory (FareState K W)) (i : ℕ) (d : DayState) (m : Memory (FareState K W)) : Type 0 where
  pub days : day_after (trips_of b.hops) d (drop i log) ≡ day_after (trips_of b.hops) d₀ log
  pub memories : memory_after b d m (drop i log) ≡ memory_after b d₀ m₀ log
