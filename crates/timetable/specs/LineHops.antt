-- The hops of an interval line as it is held.
-- Assumes nothing.
use Rattle.std.specs.Prelude.{◌≡◌, ℕ, ◌/◌, ◌%◌, ◌<◌, Bool, true, false, List, length, Some, None}
use Rattle.short_list.specs.Items.{items}
use Rattle.timetable.specs.declared.hops.Hop.{Hop}
use Rattle.timetable.specs.declared.interval_line.IntervalLine.{IntervalLine}
use Rattle.timetable.specs.Line.{line}
use Rattle.timetable.specs.Table.{hop_at}

-- the list that a line means
abbrev pub hops_of : IntervalLine → List Hop
hops_of l = line (items l.pattern) l.interval l.trips

-- whether a hop stands at a place: then it is one of the pattern's, of one of the trips
abbrev pub Reached : IntervalLine → ℕ → Bool → Type 0
Reached l place true = (place / length (items l.pattern) < l.trips) × (place % length (items l.pattern) < length (items l.pattern))
Reached l place false = None ≡ hop_at (hops_of l) place

-- a hop stands at each place that has its trip and its column
abbrev pub StandsAt : IntervalLine → ℕ → ℕ → Hop → Type 0
StandsAt l trip column h = (place : ℕ) → trip ≡ place / length (items l.pattern) → column ≡ place % length (items l.pattern) → Some h ≡ hop_at (hops_of l) place
