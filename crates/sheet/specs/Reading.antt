-- The rows of a sheet, from its bytes, or why they are no sheet. `Promise` says that this is `encode` read backwards.
-- Assumes nothing.
use Rattle.std.specs.Prelude.{ℕ, zero, suc, ◌+◌, ◌*◌, ◌/◌, ◌%◌, Bool, true, false, cond, ◌&&◌, List, [], ◌∷◌, ◌++◌, Some, None, Ok, Err, Option, Result, ◌==◌, nat_le, nat_lt, slice_index}
use Rattle.sheet.specs.declared.rows.Row.{Row}
use Rattle.sheet.specs.declared.refusals.Refusal.{Refusal}
use Rattle.sheet.specs.declared.refusals.Refusal.TheVariants.{NoRow, NoSheet}
use Rattle.sheet.specs.Rows.{most_rows, fits}

-- so many bits of a number, lowest first
unfoldable pub bits : ℕ → ℕ → List Bool
bits zero n = []
bits (suc places) n = (n % 2 == 1) ∷ bits places (n / 2)

-- what was read off the front, put behind what was read before
abbrev pub after : List ℕ → Option (List ℕ × List ℕ) → Option (List ℕ × List ℕ)
after front None = None
after front (Some p) = Some (front ++ p.0, p.1)

-- a byte for each bit, and the bytes left: 0 where the bit does not stand, else the next byte, which must not be 0
unfoldable pub spread : List Bool → List ℕ → Option (List ℕ × List ℕ)
spread [] rest = Some ([], rest)
spread (false ∷ stands) rest = after (0 ∷ []) (spread stands rest)
spread (true ∷ stands) [] = None
spread (true ∷ stands) (byte ∷ rest) = cond (nat_lt 0 byte && nat_lt byte 256) (after (byte ∷ []) (spread stands rest)) None

-- the number that three of the bytes spell, lowest first
abbrev pub number_at : ℕ → List ℕ → ℕ
number_at i bytes = slice_index bytes i + slice_index bytes (i + 1) * 256 + slice_index bytes (i + 2) * 65536

-- the row that six bytes spell
abbrev pub row_of : List ℕ → Row
row_of bytes = record { arrival = number_at 0 bytes; price = number_at 3 bytes }

-- the row that its six bytes spell, if it fits
abbrev pub fitting : Option Row → Option (List ℕ × List ℕ) → Option (Row × List ℕ)
fitting before None = None
fitting before (Some p) = cond (fits before (row_of p.0)) (Some (row_of p.0, p.1)) None

-- a map has no bit 6 or 7, so it is below this
abbrev pub no_map : ℕ
no_map = 64

-- the row in front of the bytes, which stands after `before`, and the bytes left
unfoldable pub decode_row : Option Row → List ℕ → Option (Row × List ℕ)
decode_row before [] = None
decode_row before (map ∷ rest) = cond (nat_lt map no_map) (fitting before (spread (bits 6 map) rest)) None

-- a row in front of what is read behind it
abbrev pub row_first : Row → Result (List Row) Refusal → Result (List Row) Refusal
row_first row (Ok rows) = Ok (row ∷ rows)
row_first row (Err refusal) = Err refusal

-- a row, and behind it what `more` reads after that row; where there is no row, it is blamed
abbrev pub rows_from : ℕ → Option (Row × List ℕ) → (Row → List ℕ → Result (List Row) Refusal) → Result (List Row) Refusal
rows_from k None more = Err (NoRow k)
rows_from k (Some p) more = row_first p.0 (more p.0 p.1)

-- so many rows, counted from k; the first row that is none is blamed, or the sheet for bytes left over
unfoldable pub decode_rows : ℕ → ℕ → Option Row → List ℕ → Result (List Row) Refusal
decode_rows zero k before [] = Ok []
decode_rows zero k before (byte ∷ rest) = Err NoSheet
decode_rows (suc left) k before bytes = rows_from k (decode_row before bytes) (λ row rest. decode_rows left (k + 1) (Some row) rest)

-- the rows of a sheet; its count is at most 32
unfoldable pub decode : List ℕ → Result (List Row) Refusal
decode [] = Err NoSheet
decode (count ∷ bytes) = cond (nat_le count most_rows) (decode_rows count 0 None bytes) (Err NoSheet)
