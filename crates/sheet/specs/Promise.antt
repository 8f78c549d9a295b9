-- What a sheet means: exactly the bytes of good rows are read, as those rows, and what is refused has a cause of its own.
-- Assumes nothing.
use Rattle.std.specs.Prelude.{◌≡◌, ℕ, ◌<◌, ◌≤◌, List, [], ◌∷◌, ◌++◌, length, take, Some, None, Ok, Err, Option, Result, ◌≢◌}
use Rattle.std.specs.List.{flat_map}
use Rattle.sheet.specs.declared.rows.Row.{Row}
use Rattle.sheet.specs.declared.refusals.Refusal.{Refusal}
use Rattle.sheet.specs.Rows.{most_rows, Good}
use Rattle.sheet.specs.Format.{sheet_bytes, encode_row, encode}
use Rattle.sheet.specs.Reading.{decode}
use Rattle.sheet.specs.Refusals.{Cause, cause}

-- the row at k is the first that cannot stand where it does
pub record BadRow (rows : List Row) (k : ℕ) : Type 0 where
  pub front : List Row
  pub row : Row
  pub back : List Row
  pub rows_are : rows ≡ front ++ row ∷ back
  pub place : length front ≡ k
  pub good : Good front
  pub bad : Good (front ++ row ∷ []) → ⊥

-- why rows are not written where there is room for so many bytes, by its cause
pub data NotWritten (rows : List Row) (room : ℕ) : Cause → Type 0 where
  short_sheet : room < sheet_bytes → NotWritten rows room record { number = 11; values = 0 ∷ [] }
  many_rows : sheet_bytes ≤ room → most_rows < length rows → NotWritten rows room record { number = 16; values = 255 ∷ [] }
  bad_row : (k : ℕ) → sheet_bytes ≤ room → length rows ≤ most_rows → BadRow rows k → NotWritten rows room record { number = 16; values = k ∷ [] }

-- no row that can follow these stands in front of the bytes
abbrev pub NoRowNext : List Row → List ℕ → Type 0
NoRowNext rows rest = (row : Row) (more : List ℕ) → Good (rows ++ row ∷ []) → encode_row row ++ more ≢ rest

-- why bytes are no sheet, and what is then returned: the first row that is none, or 255
pub data NotSheet (bytes : List ℕ) : ℕ → Type 0 where
  no_count : bytes ≡ [] → NotSheet bytes 255
  high_count : (count : ℕ) (rest : List ℕ) → bytes ≡ count ∷ rest → most_rows < count → NotSheet bytes 255
  left_over : (rows : List Row) (byte : ℕ) (rest : List ℕ) → Good rows → bytes ≡ encode rows ++ byte ∷ rest → NotSheet bytes 255
  no_row : (count : ℕ) (rows : List Row) (rest : List ℕ) → count ≤ most_rows → Good rows → length rows < count →
      bytes ≡ count ∷ (flat_map encode_row rows ++ rest) → NoRowNext rows rest → NotSheet bytes (length rows)

-- why a sheet is not read where there is room for so many rows, by its cause
pub data NotRead (bytes : List ℕ) (room : ℕ) : Cause → Type 0 where
  few_rows : room < most_rows → NotRead bytes room record { number = 15; values = [] }
  no_sheet : (at : ℕ) → most_rows ≤ room → NotSheet bytes at → NotRead bytes room record { number = 16; values = at ∷ [] }

-- good rows and their sheet: it holds them, fits, is read back as them, and is no other rows' sheet
pub record SheetOf (rows : List Row) (bytes : List ℕ) : Type 0 where
  pub good : Good rows
  pub encoded : bytes ≡ encode rows
  pub room : length bytes ≤ sheet_bytes
  pub reads_back : decode bytes ≡ Ok rows
  pub alone : (others : List Row) → Good others → bytes ≡ encode others → others ≡ rows

-- a cause stands, and no other does
pub record Only (Stands : Cause → Type 0) (c : Cause) : Type 0 where
  pub stands : Stands c
  pub alone : (other : Cause) → Stands other → other ≡ c

-- no cause stands
abbrev pub Never : (Cause → Type 0) → Type 0
Never Stands = (c : Cause) → Stands c → ⊥

-- rows that may be written are good and have room, and no cause stands; else the refusal's does
abbrev pub Checked : List Row → ℕ → Option Refusal → Type 0
Checked rows room None = Good rows × (sheet_bytes ≤ room) × Never (NotWritten rows room)
Checked rows room (Some refusal) = Only (NotWritten rows room) (cause refusal)

-- what the answer to writing says of the rows, the sheet as it was and the sheet as it is left
abbrev pub Written : List Row → List ℕ → List ℕ → Result ℕ Refusal → Type 0
Written rows old new (Ok n) = SheetOf rows (take n new) × Never (NotWritten rows (length old))
Written rows old new (Err refusal) = Only (NotWritten rows (length old)) (cause refusal)

-- what is read from bytes aside, where there is room: few rows and their sheet, or why there are none
abbrev pub Taken : {X : Type 0} → (X → List Row) → List ℕ → Result X Refusal → Type 0
Taken rows bytes (Ok found) =
    (length (rows found) ≤ most_rows) × (decode bytes ≡ Ok (rows found)) × SheetOf (rows found) bytes
    × ((room : ℕ) → most_rows ≤ room → Never (NotRead bytes room))
Taken rows bytes (Err refusal) = (decode bytes ≡ Err refusal) × ((room : ℕ) → most_rows ≤ room → Only (NotRead bytes room) (cause refusal))

-- what the answer to reading says of the bytes, the rows as they were and the rows as they are left
abbrev pub Found : List ℕ → List Row → List Row → Result ℕ Refusal → Type 0
Found bytes old new (Ok n) = SheetOf (take n new) bytes × Never (NotRead bytes (length old))
Found bytes old new (Err refusal) = Only (NotRead bytes (length old)) (cause refusal)
