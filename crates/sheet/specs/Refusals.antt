-- The number of each refusal, and the values that are returned with it.
-- Assumes nothing.
use Rattle.std.specs.Prelude.{ℕ, List, [], ◌∷◌}
use Rattle.sheet.specs.declared.refusals.Refusal.{Refusal}
use Rattle.sheet.specs.declared.refusals.Refusal.TheVariants.{SheetShort, RowsFew, NoRow, NoSheet}

-- a number, and the values returned with it
pub record Cause : Type 0 where
  pub number : ℕ
  pub values : List ℕ

-- 11 with 0 for the sheet; 15 with no more; 16 with the row, or with 255 for the count or the rest
abbrev pub cause : Refusal → Cause
cause SheetShort = record { number = 11; values = 0 ∷ [] }
cause RowsFew = record { number = 15; values = [] }
cause (NoRow row) = record { number = 16; values = row ∷ [] }
cause NoSheet = record { number = 16; values = 255 ∷ [] }
