-- The bytes of a sheet, from its rows.
-- Assumes nothing.
use Rattle.std.specs.Prelude.{ℕ, zero, suc, ◌+◌, ◌*◌, ◌/◌, ◌%◌, Bool, true, false, List, [], ◌∷◌, ◌++◌, length}
use Rattle.std.specs.List.{flat_map}
use Rattle.sheet.specs.declared.rows.Row.{Row}

-- the longest sheet: a count, and 32 rows of a map and six bytes
abbrev pub sheet_bytes : ℕ
sheet_bytes = 225

-- a number's three bytes, lowest first
abbrev pub three : ℕ → List ℕ
three n = n % 256 ∷ n / 256 % 256 ∷ n / 65536 % 256 ∷ []

-- the six bytes that a row stands for: arrival's, then price's
abbrev pub six : Row → List ℕ
six row = three row.arrival ++ three row.price

-- whether a byte is written at all: exactly those that are not 0 are
abbrev pub stands : ℕ → Bool
stands zero = false
stands (suc b) = true

-- a byte's bit, below the bits of the bytes behind it
abbrev pub bit_set_in : ℕ → ℕ → ℕ
bit_set_in zero map = map * 2
bit_set_in (suc b) map = map * 2 + 1

-- a bit for each byte, the first lowest, which stands exactly where the byte is not 0
abbrev pub map_of : List ℕ → ℕ
map_of [] = 0
map_of (b ∷ bytes) = bit_set_in b (map_of bytes)

-- only the bytes whose bit stands
abbrev pub standing : List ℕ → List ℕ
standing [] = []
standing (zero ∷ bytes) = standing bytes
standing (suc b ∷ bytes) = suc b ∷ standing bytes

-- the map, and behind it the bytes whose bit stands
abbrev pub packed : List ℕ → List ℕ
packed bytes = map_of bytes ∷ standing bytes

-- the bytes of a row
unfoldable pub encode_row : Row → List ℕ
encode_row row = packed (six row)

-- the bytes of a sheet: the count, and then each row's
unfoldable pub encode : List Row → List ℕ
encode rows = length rows ∷ flat_map encode_row rows
