-- The day state, what each call makes of it, and what a list of hops means on such a day.
-- Assumes nothing.
use Rattle.std.specs.Prelude.{ℕ, Bool, false, List, map}
use Rattle.timetable.specs.declared.hops.Hop.{Hop}
use Rattle.service_day.specs.Changes.{cancelled_by, delayed_by}
use Rattle.service_day.specs.Days.{cancelling, reinstating, delaying}
use Rattle.service_day.specs.Refusals.{left}

-- the set of cancelled trips, and each trip's delay in seconds
pub record DayState : Type 0 where
  pub cancelled : ℕ → Bool
  pub delay : ℕ → ℕ

-- at first no trip is cancelled, and each delay is 0
abbrev pub first_day : DayState
first_day = record { cancelled = λ _. false; delay = λ _. 0 }

-- the day after each call, where there are so many trips; a refused one alters nothing
abbrev pub after_cancel : ℕ → ℕ → DayState → DayState
after_cancel trips trip d = record { cancelled = left d.cancelled (cancelling trips trip d.cancelled); delay = d.delay }

abbrev pub after_reinstate : ℕ → ℕ → DayState → DayState
after_reinstate trips trip d = record { cancelled = left d.cancelled (reinstating trips trip d.cancelled); delay = d.delay }

abbrev pub after_delay : ℕ → ℕ → ℕ → DayState → DayState
after_delay trips trip seconds d = record { cancelled = d.cancelled; delay = left d.delay (delaying trips trip seconds d.delay) }

-- cancelled trips do not run, then delayed trips are moved
abbrev pub meant_on : DayState → List Hop → List Hop
meant_on d hops = map (delayed_by d.delay) (map (cancelled_by d.cancelled) hops)
