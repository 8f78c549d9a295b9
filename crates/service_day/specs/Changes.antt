-- What a cancellation and a delay make of a hop.
-- Assumes nothing.
use Rattle.std.specs.Prelude.{ℕ, ◌+◌, Bool, false, cond, ◌&&◌, nat_le, nat_lt}
use Rattle.timetable.specs.declared.hops.Hop.{Hop}
use Rattle.timetable.specs.Rule.{day_end}

-- the hop, not running
abbrev pub halted : Hop → Hop
halted h = record { trip = h.trip; from = h.from; to = h.to; departure = h.departure; arrival = h.arrival; metres = h.metres; level = h.level; event = h.event; runs = false }

-- the hop, so many seconds later
abbrev pub later : ℕ → Hop → Hop
later s h = record { trip = h.trip; from = h.from; to = h.to; departure = h.departure + s; arrival = h.arrival + s; metres = h.metres; level = h.level; event = h.event; runs = h.runs }

-- a hop of a cancelled trip does not run
abbrev pub cancelled_by : (ℕ → Bool) → Hop → Hop
cancelled_by off h = cond (off h.trip) (halted h) h

-- a running hop is moved; one that would so arrive after the day's end is unmoved and does not run
abbrev pub moved : ℕ → Hop → Hop
moved s h = cond (h.runs && nat_lt 0 s) (cond (nat_le (h.arrival + s) day_end) (later s h) (halted h)) h

-- a hop is moved by its trip's delay
abbrev pub delayed_by : (ℕ → ℕ) → Hop → Hop
delayed_by late h = moved (late h.trip) h
