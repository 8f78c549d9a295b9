-- Tables that list entries by trip.
-- Assumes nothing.
use Rattle.std.specs.Prelude.{ℕ, Bool, true, not, ◌&&◌, List, [], ◌∷◌, cond, length, filter, ◌==◌, nat_le, nat_lt}
use Rattle.std.specs.List.{list_any}
use Rattle.timetable.specs.Table.{most_hops}

-- the most trips that a table lists
abbrev pub most_listed : ℕ
most_listed = 32

-- every trip number is below this
abbrev pub trip_numbers : ℕ
trip_numbers = most_hops

-- a table of trips alone has each trip for its entry
abbrev pub itself : ℕ → ℕ
itself trip = trip

-- `key e` is the trip of the entry e
module _ {E : Type 0} (key : E → ℕ) where
  -- the trip has an entry
  abbrev pub listed : ℕ → List E → Bool
  listed trip es = list_any (λ e. key e == trip) es

  -- each entry is of a trip number, and no trip has two
  abbrev pub tidy : List E → Bool
  tidy [] = true
  tidy (e ∷ es) = nat_lt (key e) trip_numbers && (not (listed (key e) es) && tidy es)

  -- the entries of other trips, closed up
  abbrev pub without : ℕ → List E → List E
  without trip es = filter (λ e. not (key e == trip)) es

  -- e in the place of the first entry of its trip, else behind all
  abbrev pub with_entry : E → List E → List E
  with_entry e [] = e ∷ []
  with_entry e (x ∷ xs) = cond (key x == key e) (e ∷ xs) (x ∷ with_entry e xs)

  -- an entry is needed, and the table is full
  abbrev pub no_room : ℕ → List E → Bool
  no_room trip es = not (listed trip es) && nat_le most_listed (length es)
