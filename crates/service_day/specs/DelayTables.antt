-- Tables of delays by trip.
-- Assumes nothing.
use Rattle.std.specs.Prelude.{ℕ, Bool, cond, ◌&&◌, List, [], ◌∷◌, ◌==◌, nat_le, nat_lt}
use Rattle.std.specs.List.{list_all}
use Rattle.service_day.specs.declared.delay.Delay.{Delay}
use Rattle.service_day.specs.Days.{longest_delay}

-- the trip of an entry
abbrev pub trip_of : Delay → ℕ
trip_of d = d.trip

-- each entry is a delay of 1 to 7,200 seconds
abbrev pub all_late : List Delay → Bool
all_late ds = list_all (λ (d : Delay). nat_lt 0 d.seconds && nat_le d.seconds longest_delay) ds

-- a trip's delay by a table, 0 where it is not listed
abbrev pub seconds_of : List Delay → ℕ → ℕ
seconds_of [] trip = 0
seconds_of (d ∷ ds) trip = cond (d.trip == trip) d.seconds (seconds_of ds trip)
