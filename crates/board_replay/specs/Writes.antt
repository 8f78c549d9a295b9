-- What a writer holds after a text was written to it, or a part of it.
-- Assumes nothing.
use Rattle.std.specs.Prelude.{◌≡◌, ℕ, List, ◌++◌, Option, Ok, Err, Result}
use Rattle.std.specs.Io.KnownBytes.{Appends}

-- a front part of a text was written
abbrev pub AppendsFront : Option (List ℕ) → Option (List ℕ) → List ℕ → Type 0
AppendsFront old new whole = (front : List ℕ) × (rest : List ℕ) × (whole ≡ front ++ rest) × Appends old new front

-- all of it was; or, where that failed, a front part
abbrev pub Writes : {E : Type 0} → Result (Unit {0}) E → List ℕ → Option (List ℕ) → Option (List ℕ) → Type 0
Writes (Ok x) text old new = Appends old new text
Writes (Err error) text old new = AppendsFront old new text
