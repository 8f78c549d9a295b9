-- What `write` and `read` answer, and what they leave in the list that they were handed, for every input.
-- Assumes nothing.
use Rattle.std.specs.Prelude.{ℕ, ◌+◌, cond, List, ◌++◌, length, take, drop, Some, None, Ok, Err, Option, Result, nat_lt}
use Rattle.sheet.specs.declared.rows.Row.{Row}
use Rattle.sheet.specs.declared.refusals.Refusal.{Refusal}
use Rattle.sheet.specs.declared.refusals.Refusal.TheVariants.{SheetShort, RowsFew, NoRow, NoSheet}
use Rattle.sheet.specs.Rows.{most_rows, first_fault}
use Rattle.sheet.specs.Format.{sheet_bytes, encode}
use Rattle.sheet.specs.Reading.{decode}

-- an answer, and the list as it is left
pub record Outcome (A : Type 0) : Type 0 where
  pub answer : Result ℕ Refusal
  pub left : List A

-- a refusal leaves the list as it was
abbrev pub refused : {A : Type 0} → Refusal → List A → Outcome A
refused refusal list = record { answer = Err refusal; left = list }

-- the items stand at a place of the list, and what is before and behind them stays
abbrev pub pasted : {A : Type 0} → ℕ → List A → List A → List A
pasted at items list = take at list ++ (items ++ drop (at + length items) list)

-- the items stand at the front, and the rest of the list stays
abbrev pub laid : {A : Type 0} → List A → List A → List A
laid items list = items ++ drop (length items) list

-- the items stand at the front, and their number is answered
abbrev pub accepted : {A : Type 0} → List A → List A → Outcome A
accepted items list = record { answer = Ok (length items); left = laid items list }

-- the refusal of a row
abbrev pub faulted : Option ℕ → Option Refusal
faulted (Some row) = Some (NoRow row)
faulted None = None

-- why rows are refused where there is room for so many bytes: first the room is tested, then the number of rows, then the rows
abbrev pub write_refusal : List Row → ℕ → Option Refusal
write_refusal rows room =
    cond (nat_lt room sheet_bytes) (Some SheetShort)
    (cond (nat_lt most_rows (length rows)) (Some NoSheet) (faulted (first_fault rows)))

-- rows that are refused, or whose sheet stands in front
abbrev pub written : List Row → List ℕ → Option Refusal → Outcome ℕ
written rows sheet (Some refusal) = refused refusal sheet
written rows sheet None = accepted (encode rows) sheet

-- what writing does
abbrev pub writing : List Row → List ℕ → Outcome ℕ
writing rows sheet = written rows sheet (write_refusal rows (length sheet))

-- bytes read: what is no sheet is refused, and else the rows stand in front
abbrev pub got : List Row → Result (List Row) Refusal → Outcome Row
got rows (Err refusal) = refused refusal rows
got rows (Ok found) = accepted found rows

-- reading: first the room is tested, then the bytes
abbrev pub reading : List ℕ → List Row → Outcome Row
reading sheet rows = cond (nat_lt (length rows) most_rows) (refused RowsFew rows) (got rows (decode sheet))
