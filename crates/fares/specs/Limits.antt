-- The limits of gauges, prices, events, ladders and surcharges.
-- Assumes nothing.
use Rattle.std.specs.Prelude.{ℕ}

-- the largest number that a gauge shows
abbrev pub top_reading : ℕ
top_reading = 4294967295

-- the highest price, in cents
abbrev pub top_price : ℕ
top_price = 9999999

-- a change of vehicle
abbrev pub change_event : ℕ
change_event = 1

-- the events that may bring a surcharge on, from this one
abbrev pub first_marking_event : ℕ
first_marking_event = 2

-- events are 0 to this one
abbrev pub top_event : ℕ
top_event = 15

-- a surcharge costs this much or more
abbrev pub least_extra : ℕ
least_extra = 1

-- and no more than this
abbrev pub top_extra : ℕ
top_extra = 99999

-- the highest ticket of a ladder
abbrev pub top_rung : ℕ
top_rung = 15

-- the highest price of a ladder's lowest ticket
abbrev pub top_first : ℕ
top_first = 999999

-- the greatest step from a ticket of a ladder to the next
abbrev pub top_step : ℕ
top_step = 99999
