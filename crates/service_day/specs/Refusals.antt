-- Why a cancellation, a reinstatement or a delay is refused, by number and value; and what a call tells and leaves.
-- Assumes nothing.
use Rattle.std.specs.Prelude.{[], ◌∷◌, Ok, Err, Result}
use Rattle.timetable.specs.Refusals.{Cause}
use Rattle.service_day.specs.declared.refusal.Refusal.{Refusal}
use Rattle.service_day.specs.declared.refusal.Refusal.TheVariants.{NoSuchTrip, TableFull, NotCancelled, LongDelay}

-- each returns the trip
abbrev pub cause : Refusal → Cause
cause (NoSuchTrip trip) = record { number = 5; values = trip ∷ [] }
cause (TableFull trip) = record { number = 6; values = trip ∷ [] }
cause (NotCancelled trip) = record { number = 7; values = trip ∷ [] }
cause (LongDelay trip) = record { number = 8; values = trip ∷ [] }

-- what a call answers that leaves something new behind, or refuses
abbrev pub told : {X E : Type 0} → Result X E → Result (Unit {0}) E
told (Ok x) = Ok tt
told (Err e) = Err e

-- what such a call leaves: a refusal alters nothing
abbrev pub left : {X E : Type 0} → X → Result X E → X
left old (Ok new) = new
left old (Err e) = old
