-- The number and the values of each refusal, and what a caller learns when something opens or is refused.
-- Assumes nothing.
use Rattle.std.specs.Prelude.{ℕ, List, [], Ok, Err, Result}
use Rattle.fares.specs.declared.refusal.Refusal.{Refusal}
use Rattle.fares.specs.declared.refusal.Refusal.TheVariants.{Ladder, Surcharge}

-- a refusal's number, and the values that it returns
abbrev pub cause : Refusal → ℕ × List ℕ
cause Ladder = (4, [])
cause Surcharge = (4, [])

-- the parts that an opened value holds, or the refusal's number and values
abbrev pub meant : {T P : Type 0} → (T → P) → Result T Refusal → Result P (ℕ × List ℕ)
meant parts (Ok t) = Ok (parts t)
meant parts (Err e) = Err (cause e)
