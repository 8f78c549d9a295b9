-- The number and the values of each refusal of a rule table, and what a caller learns when one opens or is refused.
-- Assumes nothing.
use Rattle.std.specs.Prelude.{ℕ, List, [], ◌∷◌, Some, None, Ok, Err, Option, Result}
use Rattle.rule_table.specs.declared.refusal.Refusal.{Refusal}
use Rattle.rule_table.specs.declared.refusal.Refusal.TheVariants.{Rest, BadRule}

-- a refusal's number, and the values that it returns: the place of a rule, or 128, which is the place of none
abbrev pub cause : Refusal → ℕ × List ℕ
cause Rest = (3, 128 ∷ [])
cause (BadRule place) = (3, place ∷ [])

-- nothing to hold, unless there is a refusal
abbrev pub unless_refused : Option Refusal → Result (Unit {0}) Refusal
unless_refused None = Ok tt
unless_refused (Some e) = Err e

-- the parts that an opened table holds, or the refusal's number and values
abbrev pub meant : {T P : Type 0} → (T → P) → Result T Refusal → Result P (ℕ × List ℕ)
meant parts (Ok t) = Ok (parts t)
meant parts (Err e) = Err (cause e)

-- opened with these parts, unless there is a refusal
abbrev pub opened_unless : {P : Type 0} → Option Refusal → P → Result P (ℕ × List ℕ)
opened_unless None parts = Ok parts
opened_unless (Some e) parts = Err (cause e)
