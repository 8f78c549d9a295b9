-- What the layers over a timetable have cancelled and delayed, and the state of a whole day.
-- Assumes nothing.
use Rattle.std.specs.Prelude.{ℕ, Bool}
use Rattle.short_list.specs.Items.{items}
use Rattle.service_day.specs.declared.cancelled_trips.CancelledTrips.{CancelledTrips}
use Rattle.service_day.specs.declared.day.Day.{Day}
use Rattle.service_day.specs.declared.delayed_trips.DelayedTrips.{DelayedTrips}
use Rattle.service_day.specs.declared.layer.Layer.{Layer}
use Rattle.service_day.specs.DayStates.{DayState}
use Rattle.service_day.specs.DelayTables.{seconds_of}
use Rattle.service_day.specs.Tables.{itself, listed}

-- the set of the trips that a table lists
abbrev pub off_in : CancelledTrips → ℕ → Bool
off_in c trip = listed itself trip (items c.trips)

-- each trip's delay by a table
abbrev pub late_in : DelayedTrips → ℕ → ℕ
late_in d = seconds_of (items d.delays)

-- the set of cancelled trips
abbrev pub cancelled_in : {T : Type 0} → Layer T CancelledTrips → ℕ → Bool
cancelled_in c = off_in c.changes

-- each trip's delay
abbrev pub delay_in : {T : Type 0} → Layer T DelayedTrips → ℕ → ℕ
delay_in d = late_in d.changes

-- the timetable that a day is laid over, and the state of the day
abbrev pub base : {T : Type 0} → Day T → T
base d = d.layers.below.below

abbrev pub day_of : {T : Type 0} → Day T → DayState
day_of d = record { cancelled = cancelled_in d.layers.below; delay = delay_in d.layers }
