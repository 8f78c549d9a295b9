-- What a line says, or the first fault in it.
-- Assumes nothing.
use Rattle.std.specs.Prelude.{ℕ, Bool, false, cond, List, [], ◌∷◌, length, drop, Option, Some, None, Ok, Err, Result, ◌==◌, codes}
use Rattle.std.specs.Str.{bytes_eq}
use Rattle.journeys.specs.declared.question.Question.{Question}
use Rattle.day_planner.specs.declared.entry.Entry.{Entry}
use Rattle.day_planner.specs.declared.entry.Entry.TheVariants as entries
use Rattle.case_lines.specs.declared.fault.Fault.{Fault}
use Rattle.case_lines.specs.declared.fault.Fault.TheVariants.{UnknownWord, ExtraWord}
use Rattle.case_lines.specs.declared.keyword.EntryWord.{EntryWord}
use Rattle.case_lines.specs.declared.keyword.EntryWord.TheVariants as entry_words
use Rattle.case_lines.specs.declared.keyword.Keyword.{Keyword}
use Rattle.case_lines.specs.declared.keyword.Keyword.TheVariants as keywords
use Rattle.case_lines.specs.declared.keyword.LoadWord.{LoadWord}
use Rattle.case_lines.specs.declared.keyword.LoadWord.TheVariants as load_words
use Rattle.case_lines.specs.declared.line.Line.{Line}
use Rattle.case_lines.specs.declared.line.Line.TheVariants as lines
use Rattle.case_lines.specs.declared.line.Load.{Load}
use Rattle.case_lines.specs.declared.line.Load.TheVariants as loads
use Rattle.case_lines.specs.Fields.{word_at, field_at, hop_at, stop_at, path_at, rule_at, room_at, question_at, pair_at, measure_at}
use Rattle.case_lines.specs.Keywords.{keyword_of}
use Rattle.case_lines.specs.Outcomes.{◌>>=◌}
use Rattle.case_lines.specs.Words.{largest_number, words_of, numbers_of, bytes_of}

-- what a line says, wherever it lies in memory
pub data Said : Type 0 where
  nothing : Said
  -- the next board begins, with this name
  begins : List ℕ → Said
  loads_with : Load → Said
  -- a rule table: the start ticket of each class, and the price of each ticket
  prices : List ℕ → List ℕ → Said
  enters : Entry → Said
  -- a question, and the bytes of the sheet that the board is said to have printed
  claims : Question → List ℕ → Said

-- what is said by a line that was read
abbrev pub seen : Line → Said
seen lines.Nothing = nothing
seen (lines.Case name) = begins name.items
seen (lines.Load load) = loads_with load
seen (lines.Table table) = prices table.starts table.prices.items
seen (lines.Entry entry) = enters entry
seen (lines.Claim claim) = claims claim.question claim.sheet.items

-- no word is left
abbrev pub end_of : List (List ℕ) → Result (Unit {0}) Fault
end_of words = cond (length words == 0) (Ok tt) (Err ExtraWord)

-- a board's name
unfoldable pub case_of : List (List ℕ) → Result Said Fault
case_of words = do
  name ← word_at words
  end ← end_of name.1
  Ok (begins name.0)

-- a rule table, which takes all words that are left
unfoldable pub table_of : List (List ℕ) → Result Said Fault
table_of words = do
  class0 ← field_at 255 words
  class1 ← field_at 255 class0.1
  class2 ← field_at 255 class1.1
  class3 ← field_at 255 class2.1
  numbers ← numbers_of class3.1
  Ok (prices (class0.0 ∷ class1.0 ∷ class2.0 ∷ class3.0 ∷ []) numbers)

-- a sheet follows
abbrev pub is_claim : List (List ℕ) → Bool
is_claim [] = false
is_claim (word ∷ words) = bytes_eq word (codes "=")

-- a question with a sheet, which takes all words that are left
unfoldable pub claim_of : Question → List (List ℕ) → Result Said Fault
claim_of question words = do
  bytes ← bytes_of words
  Ok (claims question bytes)

-- a question with no sheet
unfoldable pub bare_of : Question → List (List ℕ) → Result Said Fault
bare_of question words = do
  end ← end_of words
  Ok (enters (entries.Ask question))

-- a question
unfoldable pub ask_of : List (List ℕ) → Result Said Fault
ask_of words = do
  question ← question_at words
  cond (is_claim question.1) (claim_of question.0 (drop 1 question.1)) (bare_of question.0 question.1)

-- an entry of a log that is no question
unfoldable pub entry_at : EntryWord → List (List ℕ) → Result (Entry × List (List ℕ)) Fault
entry_at entry_words.Cancel words = do
  trip ← field_at largest_number words
  Ok (entries.Cancel trip.0, trip.1)
entry_at entry_words.Reinstate words = do
  trip ← field_at largest_number words
  Ok (entries.Reinstate trip.0, trip.1)
entry_at entry_words.Delay words = do
  delay ← pair_at words
  Ok (entries.Delay delay.0 delay.1, delay.2)

-- what a board was loaded with, but for a table's tickets
unfoldable pub load_at : LoadWord → List (List ℕ) → Result (Load × List (List ℕ)) Fault
load_at load_words.List words = Ok (loads.HopList, words)
load_at load_words.Line words = do
  line ← pair_at words
  Ok (loads.IntervalLine line.0 line.1, line.2)
load_at load_words.Hop words = do
  hop ← hop_at words
  Ok (loads.Hop hop.0, hop.1)
load_at load_words.Stop words = do
  stop ← stop_at words
  Ok (loads.Stop stop.0, stop.1)
load_at load_words.Path words = do
  path ← path_at words
  Ok (loads.Footpath path.0, path.1)
load_at load_words.Measure words = do
  measure ← measure_at words
  Ok (loads.Measure measure.0, measure.1)
load_at load_words.Rule words = do
  rule ← rule_at words
  Ok (loads.Rule rule.0, rule.1)
load_at load_words.Ladder words = do
  ladder ← pair_at words
  Ok (loads.Ladder ladder.0 ladder.1, ladder.2)
load_at load_words.Surcharge words = do
  event ← field_at 255 words
  amount ← field_at largest_number event.1
  Ok (loads.Surcharge (record { event = event.0; amount = amount.0 }), amount.1)
load_at load_words.Room words = do
  room ← room_at words
  Ok (loads.Room room.0, room.1)

-- a line of what a board was loaded with
unfoldable pub load_of : LoadWord → List (List ℕ) → Result Said Fault
load_of kind words = do
  load ← load_at kind words
  end ← end_of load.1
  Ok (loads_with load.0)

-- a line of a log
unfoldable pub entry_of : EntryWord → List (List ℕ) → Result Said Fault
entry_of kind words = do
  entry ← entry_at kind words
  end ← end_of entry.1
  Ok (enters entry.0)

-- what a line of some kind says
abbrev pub said_by : Keyword → List (List ℕ) → Result Said Fault
said_by keywords.Case words = case_of words
said_by keywords.Table words = table_of words
said_by keywords.Ask words = ask_of words
said_by (keywords.Load kind) words = load_of kind words
said_by (keywords.Entry kind) words = entry_of kind words

-- what is said behind a word with a meaning
abbrev pub said_behind : Option Keyword → List (List ℕ) → Result Said Fault
said_behind None words = Err UnknownWord
said_behind (Some kind) words = said_by kind words

-- what these words say
abbrev pub line_of_words : List (List ℕ) → Result Said Fault
line_of_words [] = Ok nothing
line_of_words (word ∷ words) = said_behind (keyword_of word) words

-- a line that begins so is a remark
abbrev pub is_remark : List ℕ → Bool
is_remark [] = false
is_remark (byte ∷ text) = byte == 35

-- what a line says, without the line feed at its end
abbrev pub line_of : List ℕ → Result Said Fault
line_of text = cond (is_remark text) (Ok nothing) (line_of_words (words_of text))
