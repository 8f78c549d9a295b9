-- Which rows a sheet can hold: at most 32, in range, each strictly later and cheaper than the one before.
-- Assumes nothing.
use Rattle.std.specs.Prelude.{ℕ, ◌+◌, ◌<◌, ◌≤◌, Bool, true, cond, ◌&&◌, List, [], ◌∷◌, length, Some, None, Option, nat_le, nat_lt}
use Rattle.std.specs.List.{AllByRecursion}
use Rattle.sheet.specs.declared.rows.Row.{Row}

-- the most rows of a sheet
abbrev pub most_rows : ℕ
most_rows = 32

-- the latest arrival, in seconds
abbrev pub last_arrival : ℕ
last_arrival = 176400

-- the highest price, in cents
abbrev pub top_price : ℕ
top_price = 9999999

-- a row in range
abbrev pub InRange : Row → Type 0
InRange row = (row.arrival ≤ last_arrival) × (row.price ≤ top_price)

-- a row that is later and cheaper than the one before
abbrev pub Follows : Row → Row → Type 0
Follows before row = (before.arrival < row.arrival) × (row.price < before.price)

-- each row follows the one before it
abbrev pub Ordered : List Row → Type 0
Ordered [] = Unit {0}
Ordered (row ∷ []) = Unit {0}
Ordered (row ∷ next ∷ rows) = Follows row next × Ordered (next ∷ rows)

-- rows that a sheet can hold
pub record Good (rows : List Row) : Type 0 where
  pub few : length rows ≤ most_rows
  pub ranges : AllByRecursion InRange rows
  pub order : Ordered rows

-- whether a row is in range
abbrev pub within_range : Row → Bool
within_range row = nat_le row.arrival last_arrival && nat_le row.price top_price

-- whether a row follows what stands before it, if anything does
abbrev pub following : Option Row → Row → Bool
following None row = true
following (Some before) row = nat_lt before.arrival row.arrival && nat_lt row.price before.price

-- whether a row can stand after what is before it
abbrev pub fits : Option Row → Row → Bool
fits before row = within_range row && following before row

-- the first row that does not fit, where the rows are counted from k
abbrev pub fault_from : Option Row → ℕ → List Row → Option ℕ
fault_from before k [] = None
fault_from before k (row ∷ rows) = cond (fits before row) (fault_from (Some row) (k + 1) rows) (Some k)

-- the first row that cannot stand where it does
abbrev pub first_fault : List Row → Option ℕ
first_fault rows = fault_from None 0 rows
