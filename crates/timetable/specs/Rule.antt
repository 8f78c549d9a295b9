-- The timetable rule: a test of a list of hops, and the same rule in plain facts.
-- Assumes nothing.
use Rattle.std.specs.Prelude.{◌≡◌, ℕ, suc, ◌+◌, ◌<◌, ◌≤◌, Bool, true, not, ◌&&◌, ◌||◌, ◌⊎◌, List, [], ◌∷◌, Some, None, Option, ◌==◌, nat_le, nat_lt}
use Rattle.std.specs.List.{slice_get}
use Rattle.timetable.specs.declared.hops.Hop.{Hop}

-- the last second of a service day, at which a hop may still arrive
abbrev pub day_end : ℕ
day_end = 172800

-- the longest hop, in metres
abbrev pub most_metres : ℕ
most_metres = 100000

-- levels go from 0 to here
abbrev pub top_level : ℕ
top_level = 7

-- events go from 0 to here
abbrev pub top_event : ℕ
top_event = 15

-- departs before it arrives, arrives by the day's end, and keeps its ranges
abbrev pub within_limits : Hop → Bool
within_limits h =
    nat_lt h.departure h.arrival
    && (nat_le h.arrival day_end && (nat_le h.metres most_metres && (nat_le h.level top_level && nat_le h.event top_event)))

-- a hop that does not run owes nothing here
abbrev pub fit : Hop → Bool
fit h = not h.runs || within_limits h

-- the second goes on where the first has arrived, and no earlier
abbrev pub meets : Hop → Hop → Bool
meets g h = g.to == h.from && nat_le g.arrival h.departure

-- neighbouring running hops of one trip meet
abbrev pub joined : Hop → Hop → Bool
joined g h = not (h.trip == g.trip && (g.runs && h.runs)) || meets g h

-- trips start at 0 and go on by 0 or 1
abbrev pub next_trip : Hop → Hop → Bool
next_trip g h = h.trip == g.trip || h.trip == g.trip + 1

-- whether a hop may stand at the front of a list, or right after another
abbrev pub may_stand_after : Option Hop → Hop → Bool
may_stand_after None h = h.trip == 0 && fit h
may_stand_after (Some g) h = next_trip g h && (fit h && joined g h)

-- whether each hop may follow the one before it
abbrev pub keeps_after : Option Hop → List Hop → Bool
keeps_after before [] = true
keeps_after before (h ∷ hs) = may_stand_after before h && keeps_after (Some h) hs

-- the timetable rule as a test
abbrev pub keeps : List Hop → Bool
keeps hs = keeps_after None hs

-- what a running hop keeps
pub record Limits (h : Hop) : Type 0 where
  pub forward : h.departure < h.arrival
  pub by_the_end : h.arrival ≤ day_end
  pub short : h.metres ≤ most_metres
  pub eight_levels : h.level ≤ top_level
  pub sixteen_events : h.event ≤ top_event

-- the timetable rule in plain facts
pub record Rule (hs : List Hop) : Type 0 where
  pub starts : (h : Hop) → slice_get hs 0 ≡ Some h → h.trip ≡ 0
  pub limits : (i : ℕ) (h : Hop) → slice_get hs i ≡ Some h → h.runs ≡ true → Limits h
  pub goes_on : (i : ℕ) (g h : Hop) → slice_get hs i ≡ Some g → slice_get hs (suc i) ≡ Some h → (h.trip ≡ g.trip) ⊎ (h.trip ≡ g.trip + 1)
  pub meet : (i : ℕ) (g h : Hop) → slice_get hs i ≡ Some g → slice_get hs (suc i) ≡ Some h →
      h.trip ≡ g.trip → g.runs ≡ true → h.runs ≡ true → (g.to ≡ h.from) × (g.arrival ≤ h.departure)
