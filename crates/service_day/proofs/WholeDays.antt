-- The state of a day from those of its two layers.
use Rattle.std.proofs.Common.{◌≡◌, ℕ, Bool, List, map, sym, refl}
use Rattle.timetable.specs.declared.hops.Hop.{Hop}
use Rattle.timetable.specs.Table.{trips_of}
use Rattle.service_day.specs.Changes.{cancelled_by}
use Rattle.service_day.specs.DayStates.{DayState}
use Rattle.service_day.specs.LayerRule.{cancelled_gentle}
use Rattle.service_day.proofs.LayerAnswers.{same_trips}

-- cancelled trips are still counted
pub trips_same : (off : ℕ → Bool) (hs : List Hop) → trips_of (map (cancelled_by off) hs) ≡ trips_of hs
trips_same off hs = sym (same_trips (cancelled_by off) (cancelled_gentle off).trip hs (trips_of hs) refl)

-- a day from its two parts
pub same_day : {off on : ℕ → Bool} {late soon : ℕ → ℕ} → off ≡ on → late ≡ soon → ◌≡◌ {A = DayState} (record { cancelled = off; delay = late }) (record { cancelled = on; delay = soon })
same_day e f = λ i. record { cancelled = e i; delay = f i }
