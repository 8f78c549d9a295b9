-- Interval lines: one pattern of hops, again and again at an interval.
-- Assumes nothing.
use Rattle.std.specs.Prelude.{◌≡◌, ℕ, zero, suc, ◌+◌, ◌*◌, ◌<◌, ◌≤◌, Bool, true, false, cond, ◌&&◌, List, [], ◌++◌, map, length, Some, Ok, Err, Result, ◌==◌, nat_le}
use Rattle.std.specs.List.{list_all, slice_get}
use Rattle.timetable.specs.declared.hops.Hop.{Hop}
use Rattle.timetable.specs.declared.refusals.Refusal.{Refusal}
use Rattle.timetable.specs.declared.refusals.Refusal.TheVariants.{IntervalLimits}
use Rattle.timetable.specs.Refusals.{Cause, cause}
use Rattle.timetable.specs.Rule.{day_end, keeps, Rule}

-- the most hops of a pattern
abbrev pub most_pattern : ℕ
most_pattern = 16

-- the shortest interval, in seconds
abbrev pub shortest_interval : ℕ
shortest_interval = 60

-- the longest interval, in seconds
abbrev pub longest_interval : ℕ
longest_interval = 7200

-- the most trips of a line
abbrev pub most_trips : ℕ
most_trips = 200

-- a hop of the pattern as trip t has it, so much later
abbrev pub shifted : ℕ → ℕ → Hop → Hop
shifted t later h = record { trip = t; from = h.from; to = h.to; departure = h.departure + later; arrival = h.arrival + later; metres = h.metres; level = h.level; event = h.event; runs = h.runs }

-- n trips: trip t has the pattern t × interval later
abbrev pub line : List Hop → ℕ → ℕ → List Hop
line pattern interval zero = []
line pattern interval (suc n) = line pattern interval n ++ map (shifted n (n * interval)) pattern

-- each hop runs and is of trip 0
abbrev pub hops_of_first_trip : List Hop → Bool
hops_of_first_trip hs = list_all (λ (h : Hop). h.runs && h.trip == 0) hs

-- each hop arrives by the day's end, so much later
abbrev pub arriving_by : ℕ → List Hop → Bool
arriving_by later hs = list_all (λ (h : Hop). nat_le (h.arrival + later) day_end) hs

-- each hop of each of n trips does
abbrev pub all_arrive : List Hop → ℕ → ℕ → Bool
all_arrive pattern interval zero = true
all_arrive pattern interval (suc n) = arriving_by (n * interval) pattern && all_arrive pattern interval n

-- from low to high
abbrev pub within_range : ℕ → ℕ → ℕ → Bool
within_range low high n = nat_le low n && nat_le n high

-- whether a line is inside its limits
abbrev pub line_allowed : List Hop → ℕ → ℕ → Bool
line_allowed pattern interval trips =
    within_range 1 most_pattern (length pattern) && (within_range shortest_interval longest_interval interval && (within_range 1 most_trips trips
    && (keeps pattern && (hops_of_first_trip pattern && all_arrive pattern interval trips))))

-- opening a line: exactly the lines inside their limits are taken
abbrev pub open_line : List Hop → ℕ → ℕ → Result (List Hop) Refusal
open_line pattern interval trips = cond (line_allowed pattern interval trips) (Ok (line pattern interval trips)) (Err IntervalLimits)

-- the limits in plain facts: running hops of trip 0 that keep the rule, of which each trip's arrive by the day's end
pub record Allowed (pattern : List Hop) (interval trips : ℕ) : Type 0 where
  pub some : 1 ≤ length pattern
  pub few : length pattern ≤ most_pattern
  pub apart : shortest_interval ≤ interval
  pub near : interval ≤ longest_interval
  pub runs : 1 ≤ trips
  pub limited : trips ≤ most_trips
  pub rule : Rule pattern
  pub first : (i : ℕ) (h : Hop) → slice_get pattern i ≡ Some h → (h.runs ≡ true) × (h.trip ≡ 0)
  pub arrive : (t i : ℕ) (h : Hop) → t < trips → slice_get pattern i ≡ Some h → h.arrival + t * interval ≤ day_end

-- why a line is not opened, by its cause
pub data NotLine (pattern : List Hop) (interval trips : ℕ) : Cause → Type 0 where
  outside : (Allowed pattern interval trips → ⊥) → NotLine pattern interval trips record { number = 2; values = [] }

-- what the test of the limits says of a line
abbrev pub Tested : List Hop → ℕ → ℕ → Bool → Type 0
Tested pattern interval trips true = Allowed pattern interval trips
Tested pattern interval trips false = NotLine pattern interval trips (cause IntervalLimits)

-- what the answer to opening says of a line: it is inside its limits, or the cause stands
abbrev pub LineOpened : {X : Type 0} → List Hop → ℕ → ℕ → Result X Refusal → Type 0
LineOpened pattern interval trips (Ok made) = Allowed pattern interval trips
LineOpened pattern interval trips (Err refusal) = NotLine pattern interval trips (cause refusal)
