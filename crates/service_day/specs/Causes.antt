-- Why a trip may not be cancelled, reinstated or delayed: each cause in plain facts, in the order of the refusal board.
-- Assumes nothing.
use Rattle.std.specs.Prelude.{◌≡◌, ℕ, ◌<◌, ◌≤◌, Bool, false, [], ◌∷◌, Ok, Err, Result}
use Rattle.timetable.specs.Refusals.{Cause}
use Rattle.service_day.specs.declared.refusal.Refusal.{Refusal}
use Rattle.service_day.specs.Days.{longest_delay, how_many, is_late}
use Rattle.service_day.specs.Refusals.{cause}
use Rattle.service_day.specs.Tables.{most_listed}

-- an entry is needed and 32 are listed: the trip is not in the set, and the set has so many
pub record NoEntryLeft (trip : ℕ) (set : ℕ → Bool) : Type 0 where
  pub needed : set trip ≡ false
  pub full : most_listed ≤ how_many set

-- why a trip may not be cancelled, where there are so many trips and this set of them is cancelled
pub data MayNotCancel (trips trip : ℕ) (set : ℕ → Bool) : Cause → Type 0 where
  no_such_trip : trips ≤ trip → MayNotCancel trips trip set record { number = 5; values = trip ∷ [] }
  no_entry_left : trip < trips → NoEntryLeft trip set → MayNotCancel trips trip set record { number = 6; values = trip ∷ [] }

-- why a trip may not be reinstated
pub data MayNotReinstate (trips trip : ℕ) (set : ℕ → Bool) : Cause → Type 0 where
  no_such_trip : trips ≤ trip → MayNotReinstate trips trip set record { number = 5; values = trip ∷ [] }
  not_in_set : trip < trips → set trip ≡ false → MayNotReinstate trips trip set record { number = 7; values = trip ∷ [] }

-- why a trip may not be delayed by so many seconds, where these are the delays: only a delay above 0 needs an entry
pub data MayNotDelay (trips trip seconds : ℕ) (delay : ℕ → ℕ) : Cause → Type 0 where
  no_such_trip : trips ≤ trip → MayNotDelay trips trip seconds delay record { number = 5; values = trip ∷ [] }
  no_entry_left : trip < trips → 0 < seconds → NoEntryLeft trip (is_late delay) →
      MayNotDelay trips trip seconds delay record { number = 6; values = trip ∷ [] }
  too_long : trip < trips → (NoEntryLeft trip (is_late delay) → ⊥) → longest_delay < seconds →
      MayNotDelay trips trip seconds delay record { number = 8; values = trip ∷ [] }

-- what the answer of a call says of its causes: no cause stands, or the refusal's does and no other
abbrev pub RefusesFor : (Cause → Type 0) → Result (Unit {0}) Refusal → Type 0
RefusesFor Stands (Ok done) = (c : Cause) → Stands c → ⊥
RefusesFor Stands (Err refusal) = Stands (cause refusal) × ((other : Cause) → Stands other → other ≡ cause refusal)
