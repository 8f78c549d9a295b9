-- What a cancellation, a reinstatement and a delay make of the set of cancelled trips and of each trip's delay.
-- Assumes nothing.
use Rattle.std.specs.Prelude.{ℕ, zero, suc, Bool, cond, not, ◌&&◌, ◌||◌, Ok, Err, Result, ◌==◌, nat_le, nat_lt}
use Rattle.service_day.specs.declared.refusal.Refusal.{Refusal}
use Rattle.service_day.specs.declared.refusal.Refusal.TheVariants.{NoSuchTrip, TableFull, NotCancelled, LongDelay}
use Rattle.service_day.specs.Tables.{most_listed, trip_numbers}

-- the longest delay, in seconds
abbrev pub longest_delay : ℕ
longest_delay = 7200

-- how many of the numbers below n are in a set
unfoldable pub members_below : (ℕ → Bool) → ℕ → ℕ
members_below set zero = 0
members_below set (suc n) = cond (set n) (suc (members_below set n)) (members_below set n)

-- how many trips a set has
unfoldable pub how_many : (ℕ → Bool) → ℕ
how_many set = members_below set trip_numbers

-- an entry is needed, and 32 are listed: the trip is not in the set, and 32 others are
abbrev pub set_full : ℕ → (ℕ → Bool) → Bool
set_full trip set = not (set trip) && nat_le most_listed (how_many set)

-- the set with a trip, and without it
abbrev pub put_in : ℕ → (ℕ → Bool) → ℕ → Bool
put_in trip set t = trip == t || set t

abbrev pub take_out : ℕ → (ℕ → Bool) → ℕ → Bool
take_out trip set t = not (trip == t) && set t

-- the delays, with that of a trip set
abbrev pub set_to : ℕ → ℕ → (ℕ → ℕ) → ℕ → ℕ
set_to trip seconds delay t = cond (trip == t) seconds (delay t)

-- the trips that are delayed
abbrev pub is_late : (ℕ → ℕ) → ℕ → Bool
is_late delay t = nat_lt 0 (delay t)

-- cancelling a trip, where there are so many
abbrev pub cancelling : ℕ → ℕ → (ℕ → Bool) → Result (ℕ → Bool) Refusal
cancelling trips trip set =
    cond (nat_le trips trip) (Err (NoSuchTrip trip))
    (cond (set_full trip set) (Err (TableFull trip))
    (Ok (put_in trip set)))

-- reinstating a trip
abbrev pub reinstating : ℕ → ℕ → (ℕ → Bool) → Result (ℕ → Bool) Refusal
reinstating trips trip set =
    cond (nat_le trips trip) (Err (NoSuchTrip trip))
    (cond (set trip) (Ok (take_out trip set))
    (Err (NotCancelled trip)))

-- delaying a trip: a delay of 0 needs no entry
abbrev pub delaying : ℕ → ℕ → ℕ → (ℕ → ℕ) → Result (ℕ → ℕ) Refusal
delaying trips trip seconds delay =
    cond (nat_le trips trip) (Err (NoSuchTrip trip))
    (cond (nat_lt 0 seconds && set_full trip (is_late delay)) (Err (TableFull trip))
    (cond (nat_lt longest_delay seconds) (Err (LongDelay trip))
    (Ok (set_to trip seconds delay))))
