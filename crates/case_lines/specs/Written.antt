-- The lines of a log as they are written: numbers in decimal digits, and the sheet of a question as a record has it.
-- Assumes nothing.
use Rattle.std.specs.Prelude.{◌≡◌, ℕ, ◌<◌, ◌≤◌, List, [], ◌∷◌, ◌++◌, All, Ok, Result, codes, decimal}
use Rattle.std.specs.List.{join_with_byte}
use Rattle.journeys.specs.declared.question.Question.{Question}
use Rattle.day_planner.specs.declared.entry.Entry.{Entry}
use Rattle.day_planner.specs.declared.entry.Entry.TheVariants.{Cancel, Reinstate, Delay, Ask}
use Rattle.records.specs.Records.{sheet_text}
use Rattle.case_lines.specs.declared.fault.ReadError.{ReadError}
use Rattle.case_lines.specs.declared.line.Line.{Line}
use Rattle.case_lines.specs.Fields.{field_at}
use Rattle.case_lines.specs.Outcomes.{Gives}
use Rattle.case_lines.specs.Reading.{seen, enters, claims}
use Rattle.case_lines.specs.Words.{largest_number}

-- the words of an entry of a log
abbrev pub entry_words : Entry → List (List ℕ)
entry_words (Cancel trip) = codes "cancel" ∷ decimal trip ∷ []
entry_words (Reinstate trip) = codes "reinstate" ∷ decimal trip ∷ []
entry_words (Delay trip seconds) = codes "delay" ∷ decimal trip ∷ decimal seconds ∷ []
entry_words (Ask q) = codes "ask" ∷ decimal q.origin ∷ decimal q.destination ∷ decimal q.departure ∷ decimal q.rides ∷ []

-- the line of an entry: its words with a blank between each two
abbrev pub entry_text : Entry → List ℕ
entry_text e = join_with_byte 32 (entry_words e)

-- the line of a question with the bytes of a sheet, as the line of a record has them
abbrev pub claim_text : Question → List ℕ → List ℕ
claim_text q bytes = entry_text (Ask q) ++ (codes " = " ++ sheet_text bytes)

-- each number of an entry is one that a field can hold
abbrev pub HasFields : Entry → Type 0
HasFields (Cancel trip) = trip ≤ largest_number
HasFields (Reinstate trip) = trip ≤ largest_number
HasFields (Delay trip seconds) = (trip ≤ largest_number) × (seconds ≤ largest_number)
HasFields (Ask q) = (q.origin ≤ largest_number) × (q.destination ≤ largest_number) × (q.departure ≤ largest_number) × (q.rides ≤ largest_number)

-- each is a byte
abbrev pub AreBytes : List ℕ → Type 0
AreBytes bytes = All (λ b. b < 256) bytes

-- A number up to the largest of its field, written in decimal digits, is read as this number.
abbrev pub NumbersReadBack : Type 0
NumbersReadBack = (largest n : ℕ) (words : List (List ℕ)) → largest ≤ largest_number → n ≤ largest → field_at largest (decimal n ∷ words) ≡ Ok (n, words)

-- A line that was written of an entry, or of a question with a sheet, is read as just this.
pub record ReadsBack (text : List ℕ) (read : Result Line ReadError) : Type 0 where
  pub entry : (e : Entry) → HasFields e → text ≡ entry_text e → Gives seen read (Ok (enters e))
  pub claim : (q : Question) (bytes : List ℕ) → HasFields (Ask q) → AreBytes bytes → text ≡ claim_text q bytes → Gives seen read (Ok (claims q bytes))
