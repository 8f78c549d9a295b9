-- The lines of a case file as they come: how far they were read, what is left of them, and what the next one says.
-- Assumes nothing.
use Rattle.std.specs.Prelude.{◌≡◌, ℕ, suc, ◌+◌, ◌-◌, ◌^◌, ◌<◌, ◌≤◌, Bool, true, false, cond, List, [], ◌∷◌, length, map, Option, Some, None, Ok, Err, Result, Vec, ◌==◌}
use Rattle.std.specs.Global.{Global}
use Rattle.case_lines.specs.declared.fault.Fault.{Fault}
use Rattle.case_lines.specs.declared.line.Line.{Line}
use Rattle.case_lines.specs.Reading.{Said, seen, line_of}
use Rattle.board_replay.specs.declared.failure.Failure.{Failure}
use Rattle.board_replay.specs.declared.failure.Failure.TheVariants as failures
use Rattle.board_replay.specs.declared.lines.Lines.{Lines}

-- a byte in front of the first line
abbrev pub onto_first : ℕ → List (List ℕ) → List (List ℕ)
onto_first byte [] = (byte ∷ []) ∷ []
onto_first byte (line ∷ lines) = (byte ∷ line) ∷ lines

-- the lines of a text: each but the last ends with a line feed, and the last may
unfoldable pub lines_in : List ℕ → List (List ℕ)
lines_in [] = []
lines_in (byte ∷ text) = cond (byte == 10) ([] ∷ lines_in text) (onto_first byte (lines_in text))

-- what a line says, or what is wrong with it
abbrev pub Event : Type 0
Event = Result Said Fault

-- what the lines of a text say
abbrev pub said_in : List ℕ → List Event
said_in text = map line_of (lines_in text)

-- what is left, where a line was put back, and this text is still unread
abbrev pub left_behind : Option Line → List ℕ → List Event
left_behind None text = said_in text
left_behind (Some line) text = Ok (seen line) ∷ said_in text

-- the same, where the text may be unknown
abbrev pub left_in : Option Line → Option (List ℕ) → Option (List Event)
left_in kept None = None
left_in kept (Some text) = Some (left_behind kept text)

-- how far a file was read
pub record Place : Type 0 where
  -- how many lines were read: the number of the last of them
  pub number : ℕ
  -- that one, where it was put back
  pub kept : Option Line
  -- the text behind it, where that is known
  pub unread : Option (List ℕ)

abbrev pub place : {R : Type 0} → (R → Option (List ℕ)) → Lines R → Place
place remaining lines = record { number = lines.number; kept = lines.kept; unread = remaining lines.reader }

-- what is left there
abbrev pub left_at : Place → Option (List Event)
left_at p = left_in p.kept p.unread

-- the number that the next line has; one that was put back was counted
abbrev pub next_number : Option Line → ℕ → ℕ
next_number None number = suc number
next_number (Some line) number = number

abbrev pub next_at : Place → ℕ
next_at p = next_number p.kept p.number

-- how many lines may still be read, in numbers that a u64 counts
abbrev pub held : Option Line → ℕ
held None = 0
held (Some line) = 1

abbrev pub lines_ahead : Place → ℕ
lines_ahead p = (2 ^ 64 - p.number) + held p.kept

-- how many lines a file has: those that were read, and those of the text behind
abbrev pub count_from : ℕ → Option (List ℕ) → ℕ
count_from number None = number
count_from number (Some text) = number + length (lines_in text)

abbrev pub count_at : Place → ℕ
count_at p = count_from p.number p.unread

-- the line that was read last is the last one before these, in a file of so many lines
abbrev pub StandsBefore : Place → List Event → ℕ → Type 0
StandsBefore p rest count = p.number + length rest ≡ count

-- a line that is read counts one; where 2^64 - 1 were read and there are more, a call gives up
abbrev pub CountsLine : ℕ → Result Bool Failure → ℕ → Type 0
CountsLine old (Ok true) new = (new ≡ suc old) × (old < 2 ^ 64 - 1)
CountsLine old (Ok false) new = new ≡ old
CountsLine old (Err failures.Memory) new = new ≡ old
CountsLine old (Err (failures.Input error)) new = new ≡ old
CountsLine old (Err failures.Endless) new = (old ≡ 2 ^ 64 - 1) × (new ≡ old)
CountsLine old (Err (failures.Unreadable fault)) new = ⊥
CountsLine old (Err (failures.Misplaced fault)) new = ⊥
CountsLine old (Err (failures.Opening refusal)) new = ⊥

-- a line that is answered, or cannot be read, has the next number
abbrev pub Numbers : Place → Result (Option Line) Failure → Place → Type 0
Numbers before (Ok None) after = (after.number ≡ before.number) × (lines_ahead after ≤ lines_ahead before)
Numbers before (Ok (Some line)) after = (after.number ≡ next_at before) × (lines_ahead after < lines_ahead before)
Numbers before (Err (failures.Unreadable fault)) after = after.number ≡ next_at before
Numbers before (Err failures.Memory) after = Unit {0}
Numbers before (Err (failures.Input error)) after = Unit {0}
Numbers before (Err failures.Endless) after = after.number ≡ 2 ^ 64 - 1
Numbers before (Err (failures.Misplaced fault)) after = ⊥
Numbers before (Err (failures.Opening refusal)) after = ⊥

-- only where 2^64 - 1 lines were read does a call say that the lines are endless
abbrev pub EndlessAt : {X : Type 0} → Result X Failure → Place → Type 0
EndlessAt r p = r ≡ Err failures.Endless → p.number ≡ 2 ^ 64 - 1

-- A call reads on: one that comes to the next board has read a line at least, and one that says that the lines are
-- endless has read 2^64 - 1. None puts back what it did not read.
abbrev pub ReadsOn : Place → Result (Option (Vec ℕ Global)) Failure → Place → Type 0
ReadsOn before (Ok None) after = Unit {0}
ReadsOn before (Ok (Some name)) after = lines_ahead after < lines_ahead before
ReadsOn before (Err failures.Endless) after = after.number ≡ 2 ^ 64 - 1
ReadsOn before (Err (failures.Opening refusal)) after = lines_ahead after ≤ lines_ahead before
ReadsOn before (Err failures.Memory) after = Unit {0}
ReadsOn before (Err (failures.Input error)) after = Unit {0}
ReadsOn before (Err (failures.Unreadable fault)) after = Unit {0}
ReadsOn before (Err (failures.Misplaced fault)) after = Unit {0}

-- the same of a call that may put a line back
abbrev pub ReadsUpTo : Place → Result Bool Failure → Place → Type 0
ReadsUpTo before (Ok begun) after = lines_ahead after ≤ lines_ahead before
ReadsUpTo before (Err failures.Endless) after = after.number ≡ 2 ^ 64 - 1
ReadsUpTo before (Err failures.Memory) after = Unit {0}
ReadsUpTo before (Err (failures.Input error)) after = Unit {0}
ReadsUpTo before (Err (failures.Unreadable fault)) after = Unit {0}
ReadsUpTo before (Err (failures.Misplaced fault)) after = Unit {0}
ReadsUpTo before (Err (failures.Opening refusal)) after = ⊥

-- the next line of a text was read, and this text is left then; or there was none
abbrev pub Reads : List ℕ → Result Bool Failure → List ℕ → Option (List ℕ) → Type 0
Reads text (Ok true) line left = (rest : List ℕ) × (lines_in text ≡ line ∷ lines_in rest) × (left ≡ Some rest)
Reads text (Ok false) line left = (text ≡ []) × (left ≡ Some [])
Reads text (Err failures.Memory) line left = Unit {0}
Reads text (Err (failures.Input error)) line left = Unit {0}
Reads text (Err (failures.Unreadable fault)) line left = ⊥
Reads text (Err (failures.Misplaced fault)) line left = ⊥
Reads text (Err (failures.Opening refusal)) line left = ⊥
Reads text (Err failures.Endless) line left = Unit {0}

-- the next line of these was answered, and these are left then; of memory, reading and lines without end nothing is said
abbrev pub Gets : List Event → Result (Option Line) Failure → Option (List Event) → Type 0
Gets events (Ok None) left = (events ≡ []) × (left ≡ Some [])
Gets events (Ok (Some line)) left = (rest : List Event) × (events ≡ Ok (seen line) ∷ rest) × (left ≡ Some rest)
Gets events (Err (failures.Unreadable fault)) left = (rest : List Event) × (events ≡ Err fault ∷ rest)
Gets events (Err failures.Memory) left = Unit {0}
Gets events (Err (failures.Input error)) left = Unit {0}
Gets events (Err (failures.Misplaced fault)) left = ⊥
Gets events (Err (failures.Opening refusal)) left = ⊥
Gets events (Err failures.Endless) left = Unit {0}
