-- The limits of a question, of the lists that its answer rests on, and of those that it is written to.
-- Assumes nothing.
use Rattle.std.specs.Prelude.{ℕ, suc, Bool, cond, not, ◌&&◌, ◌||◌, List, [], ◌∷◌, length, take, Some, None, Option, ◌==◌, nat_le, nat_lt}
use Rattle.timetable.specs.declared.hops.Hop.{Hop}
use Rattle.timetable.specs.Rule.{day_end}
use Rattle.timetable.specs.Table.{most_hops, count_of}
use Rattle.journeys.specs.declared.network.Footpath.{Footpath}
use Rattle.journeys.specs.declared.network.Stop.{Stop}
use Rattle.journeys.specs.declared.question.Question.{Question as Asked}
use Rattle.sheet.specs.Format.{sheet_bytes}
use Rattle.planner.specs.declared.refusal.Field.{Field}
use Rattle.planner.specs.declared.refusal.Field.TheVariants.{Origin, Destination, Departure, Rides, Count}
use Rattle.planner.specs.declared.refusal.NetworkList.TheVariants.{Stops, Footpaths, Hops}
use Rattle.planner.specs.declared.refusal.OutputList.{OutputList}
use Rattle.planner.specs.declared.refusal.OutputList.TheVariants.{Sheet, Legs}
use Rattle.planner.specs.declared.refusal.Refusal.{Refusal}
use Rattle.planner.specs.declared.refusal.Refusal.TheVariants.{Question, Network, ShortOutput}

abbrev pub most_stops : ℕ
most_stops = 4096

abbrev pub most_paths : ℕ
most_paths = 4096

abbrev pub top_zone : ℕ
top_zone = 63

abbrev pub top_class : ℕ
top_class = 3

-- in seconds
abbrev pub longest_walk : ℕ
longest_walk = 3600

abbrev pub most_rides : ℕ
most_rides = 8

-- 32 rows with at most 17 legs each
abbrev pub most_legs : ℕ
most_legs = 544

-- the first field that cannot be asked, where there are so many stops and hops
abbrev pub fault_of_question : Asked → ℕ → ℕ → Option Field
fault_of_question q stops count =
    cond (nat_le stops q.origin) (Some Origin)
    (cond (nat_le stops q.destination) (Some Destination)
    (cond (nat_lt day_end q.departure) (Some Departure)
    (cond (nat_lt q.rides 1 || nat_lt most_rides q.rides) (Some Rides)
    (cond (nat_le most_hops count) (Some Count) None))))

-- a stop lies in a zone 0 to 63 and has a class 0 to 3
abbrev pub stop_within : Stop → Bool
stop_within s = nat_le s.zone top_zone && nat_le s.class top_class

-- a footpath leads from a stop to another one in 1 to 3,600 seconds
abbrev pub path_within : ℕ → Footpath → Bool
path_within stops p =
    nat_lt p.from stops && (nat_lt p.to stops && (not (p.from == p.to) && (nat_le 1 p.seconds && nat_le p.seconds longest_walk)))

-- a running hop leads from stop to stop
abbrev pub hop_within : ℕ → Hop → Bool
hop_within stops h = not h.runs || (nat_lt h.from stops && nat_lt h.to stops)

-- the first place that fails a test; the list begins at place i
abbrev pub first_bad : {A : Type 0} → (A → Bool) → ℕ → List A → Option ℕ
first_bad test i [] = None
first_bad test i (x ∷ xs) = cond (test x) (first_bad test (suc i) xs) (Some i)

-- the length of a list that is too long, else its first place outside limits
abbrev pub fault_of_stops : List Stop → Option ℕ
fault_of_stops stops = cond (nat_lt most_stops (length stops)) (Some (length stops)) (first_bad stop_within 0 stops)

abbrev pub fault_of_paths : ℕ → List Footpath → Option ℕ
fault_of_paths stops paths = cond (nat_lt most_paths (length paths)) (Some (length paths)) (first_bad (path_within stops) 0 paths)

-- a timetable that can be asked is not too long, so that all its hops are tested
abbrev pub hops_fault : ℕ → List Hop → Option ℕ
hops_fault stops hops = first_bad (hop_within stops) 0 (take most_hops hops)

-- the first cause
abbrev pub or_else : {A : Type 0} → Option A → Option A → Option A
or_else None later = later
or_else (Some a) later = Some a

-- a fault, as a refusal
abbrev pub refused_by : {A : Type 0} → (A → Refusal) → Option A → Option Refusal
refused_by f None = None
refused_by f (Some a) = Some (f a)

-- stops first, then footpaths, then running hops
abbrev pub fault_of_network : List Stop → List Footpath → List Hop → Option Refusal
fault_of_network stops paths hops =
    or_else (refused_by (Network Stops) (fault_of_stops stops))
    (or_else (refused_by (Network Footpaths) (fault_of_paths (length stops) paths))
    (refused_by (Network Hops) (hops_fault (length stops) hops)))

-- the sheet first, then the legs
abbrev pub fault_of_room : ℕ → ℕ → Option OutputList
fault_of_room bytes legs = cond (nat_lt bytes sheet_bytes) (Some Sheet) (cond (nat_lt legs most_legs) (Some Legs) None)

-- The refusal of a question before it is scanned: its fields first, then the network, then the room.
unfoldable pub fault_of : Asked → List Stop → List Footpath → List Hop → ℕ → ℕ → Option Refusal
fault_of q stops paths hops bytes legs =
    or_else (refused_by Question (fault_of_question q (length stops) (count_of hops)))
    (or_else (fault_of_network stops paths hops) (refused_by ShortOutput (fault_of_room bytes legs)))
