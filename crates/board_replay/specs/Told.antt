-- What is told of a failure, and the line that it is told in.
-- Assumes nothing.
use Rattle.std.specs.Prelude.{◌≡◌, ℕ, List, [], ◌∷◌, ◌++◌, Option, Some, None, codes, decimal}
use Rattle.case_lines.specs.Told.{fault_told as line_told}
use Rattle.board_replay.specs.declared.failure.Failure.{Failure}
use Rattle.board_replay.specs.declared.failure.Failure.TheVariants as failures
use Rattle.board_replay.specs.declared.fault.Fault.{Fault}
use Rattle.board_replay.specs.declared.fault.Fault.TheVariants.{Again, RuleBeforeTable, NoTariff, Late}

-- what is wrong with a line that cannot stand where it does, in words
abbrev pub fault_told : Fault → List ℕ
fault_told Again = codes "a second line of a kind that stands once at most"
fault_told RuleBeforeTable = codes "a rule before a table"
fault_told NoTariff = codes "neither a table nor a ladder"
fault_told Late = codes "handed in behind the first entry of the log"

-- why a replay ended, in words; those of the system's errors are its own
abbrev pub failure_told : Failure → Option (List ℕ)
failure_told failures.Memory = Some (codes "out of memory")
failure_told (failures.Input error) = None
failure_told (failures.Unreadable fault) = Some (line_told fault)
failure_told (failures.Misplaced fault) = Some (fault_told fault)
failure_told (failures.Opening refusal) = None
failure_told failures.Endless = Some (codes "too many lines")

-- what is told of the line of a number
abbrev pub told_of_line : ℕ → List ℕ → List ℕ
told_of_line number words = codes "line " ++ decimal number ++ codes ": " ++ words ++ 10 ∷ []

-- a line of these words; where they are not known, of some words
abbrev pub IsLineOf : Option (List ℕ) → List ℕ → Type 0
IsLineOf (Some words) line = line ≡ words ++ 10 ∷ []
IsLineOf None line = (words : List ℕ) × (line ≡ words ++ 10 ∷ [])

-- the line of a failure: the number of the line that was read last and what is wrong with it, or else why the replay ended
abbrev pub IsTold : Failure → ℕ → List ℕ → Type 0
IsTold (failures.Unreadable fault) number line = line ≡ told_of_line number (line_told fault)
IsTold (failures.Misplaced fault) number line = line ≡ told_of_line number (fault_told fault)
IsTold failures.Memory number line = IsLineOf (failure_told failures.Memory) line
IsTold (failures.Input error) number line = IsLineOf (failure_told (failures.Input error)) line
IsTold (failures.Opening refusal) number line = IsLineOf (failure_told (failures.Opening refusal)) line
IsTold failures.Endless number line = IsLineOf (failure_told failures.Endless) line
