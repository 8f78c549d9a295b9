-- Worked cases of the ferry's network: what questions answer and write, and what is answered where bytes are read.
-- Assumes nothing.
use Rattle.std.specs.Prelude.{◌≡◌, ℕ, List, [], ◌∷◌, take, replicate, Ok, Err, Result}
use Rattle.fares.specs.declared.tickets.Marked.{Marked}
use Rattle.fares.specs.Tariffs.{TariffModel}
use Rattle.measures.specs.declared.weights.ZoneSet.{ZoneSet}
use Rattle.measures.specs.ZoneSets.{zones_model}
use Rattle.journeys.specs.declared.leg.Leg.{Leg}
use Rattle.journeys.specs.declared.leg.LegKind.TheVariants.{Ride}
use Rattle.journeys.specs.declared.question.Question.{Question}
use Rattle.journeys.specs.Lists.{Each}
use Rattle.sheet.specs.declared.refusals.Refusal.{Refusal}
use Rattle.sheet.specs.declared.rows.Row.{Row}
use Rattle.sheet.specs.Outcome.{reading}
use Rattle.sheet.specs.Refusals.{Cause, cause}
use Rattle.sheet.specs.Rows.{most_rows}
use Rattle.planner.specs.declared.answer.Answer.{Answer}
use Rattle.planner.specs.declared.refusal.Refusal.{Refusal as QuestionRefusal}
use Rattle.planner.specs.Outcome.{Outcome}
use Rattle.planner.specs.Refusals.{numbered, cause as question_cause}
use Rattle.day_planner.specs.declared.entry.Entry.{Entry}
use Rattle.day_planner.specs.declared.entry.Entry.TheVariants.{Cancel, Delay}
use Rattle.day_planner.specs.Log.{Basis, asked_after}
use Rattle.ferry_cases.specs.declared.worked.AskingCase.{AskingCase}
use Rattle.ferry_cases.specs.declared.worked.AskingCase.TheVariants.{RoomToSpare, SixLabels, FiveLabels, TwoAboard, OneAboard, OneRide, HalfWay, ToTheOrigin, LandTripCancelled, FerryJustCaught, FerryMissed}
use Rattle.ferry_cases.specs.declared.worked.Printed.{Printed}
use Rattle.ferry_cases.specs.declared.worked.ReadingCase.{ReadingCase}
use Rattle.ferry_cases.specs.declared.worked.ReadingCase.TheVariants.{PriceOfZero, ByteLeftOver}
use Rattle.ferry_cases.specs.FerryBoard.{ferry_hops, ferry_stops, to, ferry_question, ferry_tariff, blank_memory}

-- what a caller sees of an answer: how many rows there are and how many labels were written, the sheet and the legs
pub record Shown : Type 0 where
  pub rows : ℕ
  pub labels : ℕ
  pub sheet : List ℕ
  pub legs : List Leg

-- a case, with what must come of it
pub data Case : Type 0 where
  -- after a log, a question with so many places for labels and so many for those aboard
  asks : List Entry → Question → ℕ → ℕ → Result Shown Cause → Case
  -- bytes that are read as a sheet
  reads : List ℕ → Result ℕ Cause → Case

-- what an answer says was written, out of a sheet and legs; a refusal by its number and values
abbrev pub shown_in : List ℕ → List Leg → Result Answer Cause → Result Shown Cause
shown_in sheet legs (Ok a) = Ok (record { rows = a.rows; labels = a.labels; sheet = take a.bytes sheet; legs = take a.legs legs })
shown_in sheet legs (Err c) = Err c

-- what is seen of an outcome
abbrev pub shown : {S : Type 0} → Outcome S → Result Shown Cause
shown o = shown_in o.left.sheet o.left.legs (numbered o.answer)

-- what a board with a tariff answers from: the ferry's hops and stops, no footpaths, and zones
abbrev pub ferry_basis : TariffModel (Marked ℕ) → Basis (Marked ℕ) ZoneSet
ferry_basis tariff = record { tariff = tariff; measure = zones_model; hops = ferry_hops; stops = ferry_stops; paths = [] }

-- what is seen of a question after a log, with so many places for labels and for those aboard
unfoldable pub shown_after : TariffModel (Marked ℕ) → List Entry → Question → ℕ → ℕ → Result Shown Cause
shown_after tariff log q labels aboard = shown (asked_after (ferry_basis tariff) log q (blank_memory labels aboard))

-- a blank place for a row
abbrev pub no_row : Row
no_row = record { arrival = 0; price = 0 }

-- how many rows were read; a refusal by its number and values
abbrev pub told : Result ℕ Refusal → Result ℕ Cause
told (Ok rows) = Ok rows
told (Err refusal) = Err (cause refusal)

-- what is answered where bytes are read, with just room for the most rows
unfoldable pub read_from : List ℕ → Result ℕ Cause
read_from bytes = told (reading bytes (replicate most_rows no_row)).answer

-- what must come of a case comes of it
abbrev pub Holds : Case → Type 0
Holds (asks log q labels aboard result) = shown_after ferry_tariff log q labels aboard ≡ result
Holds (reads bytes result) = read_from bytes ≡ result

-- a ride handed out with a row: its first and its last hop
abbrev pub ride : ℕ → ℕ → ℕ → Leg
ride row first last = record { row = row; kind = Ride; first = first; last = last }

-- a refusal with one value
abbrev pub refused : {A : Type 0} → ℕ → ℕ → Result A Cause
refused number value = Err (record { number = number; values = value ∷ [] })

-- at 1500 for 350, by ferry all the way; at 1800 for 300, by land all the way
abbrev pub both_ways : Shown
both_ways = record {
  rows = 2;
  labels = 6;
  sheet = 0x02 ∷ 0x1b ∷ 0xdc ∷ 0x05 ∷ 0x5e ∷ 0x01 ∷ 0x1b ∷ 0x08 ∷ 0x07 ∷ 0x2c ∷ 0x01 ∷ [];
  legs = ride 0 0 0 ∷ ride 0 3 3 ∷ ride 1 1 2 ∷ ride 1 4 4 ∷ [];
}

-- nothing: two rides are needed
abbrev pub no_way : Shown
no_way = record { rows = 0; labels = 4; sheet = 0x00 ∷ []; legs = [] }

-- at 900 for 300, by land
abbrev pub half_way : Shown
half_way = record { rows = 1; labels = 6; sheet = 0x01 ∷ 0x1b ∷ 0x84 ∷ 0x03 ∷ 0x2c ∷ 0x01 ∷ []; legs = ride 0 1 2 ∷ [] }

-- at 600 for nothing, with no leg
abbrev pub no_trip : Shown
no_trip = record { rows = 1; labels = 6; sheet = 0x01 ∷ 0x03 ∷ 0x58 ∷ 0x02 ∷ []; legs = [] }

-- at 1500 for 350, by ferry all the way
abbrev pub by_ferry : Shown
by_ferry = record { rows = 1; labels = 3; sheet = 0x01 ∷ 0x1b ∷ 0xdc ∷ 0x05 ∷ 0x5e ∷ 0x01 ∷ []; legs = ride 0 0 0 ∷ ride 0 3 3 ∷ [] }

-- at 1500 for 450, by land and then by ferry; at 1800 for 300, by land all the way
abbrev pub by_land_first : Shown
by_land_first = record {
  rows = 2;
  labels = 6;
  sheet = 0x02 ∷ 0x1b ∷ 0xdc ∷ 0x05 ∷ 0xc2 ∷ 0x01 ∷ 0x1b ∷ 0x08 ∷ 0x07 ∷ 0x2c ∷ 0x01 ∷ [];
  legs = ride 0 1 2 ∷ ride 0 3 3 ∷ ride 1 1 2 ∷ ride 1 4 4 ∷ [];
}

-- the cases that ask: room to spare, just enough and a place too few; other questions; a trip cancelled, a trip delayed
abbrev pub asking_case : AskingCase → Case
asking_case RoomToSpare = asks [] ferry_question 64 16 (Ok both_ways)
asking_case SixLabels = asks [] ferry_question 6 16 (Ok both_ways)
asking_case FiveLabels = asks [] ferry_question 5 16 (refused 12 5)
asking_case TwoAboard = asks [] ferry_question 64 2 (Ok both_ways)
asking_case OneAboard = asks [] ferry_question 64 1 (refused 13 3)
asking_case OneRide = asks [] (to 3 1) 64 16 (Ok no_way)
asking_case HalfWay = asks [] (to 1 2) 64 16 (Ok half_way)
asking_case ToTheOrigin = asks [] (to 0 2) 64 16 (Ok no_trip)
asking_case LandTripCancelled = asks (Cancel 1 ∷ []) ferry_question 64 16 (Ok by_ferry)
asking_case FerryJustCaught = asks (Delay 0 300 ∷ []) ferry_question 64 16 (Ok both_ways)
asking_case FerryMissed = asks (Delay 0 301 ∷ []) ferry_question 64 16 (Ok by_land_first)

-- the cases that read: bytes that are no sheet
abbrev pub reading_case : ReadingCase → Case
reading_case PriceOfZero = reads (0x01 ∷ 0x1b ∷ 0xdc ∷ 0x05 ∷ 0x5e ∷ 0x00 ∷ []) (refused 16 0)
reading_case ByteLeftOver = reads (0x00 ∷ 0x00 ∷ []) (refused 16 255)

-- all of them
abbrev pub cases : List Case
cases =
    asking_case RoomToSpare
    ∷ asking_case SixLabels
    ∷ asking_case FiveLabels
    ∷ asking_case TwoAboard
    ∷ asking_case OneAboard
    ∷ asking_case OneRide
    ∷ asking_case HalfWay
    ∷ asking_case ToTheOrigin
    ∷ asking_case LandTripCancelled
    ∷ asking_case FerryJustCaught
    ∷ asking_case FerryMissed
    ∷ reading_case PriceOfZero
    ∷ reading_case ByteLeftOver
    ∷ []

-- every case holds
abbrev pub FerryCases : Type 0
FerryCases = Each Holds cases

-- this is the log, the question and the room of a case
abbrev pub Asks : Case → List Entry → Question → ℕ → ℕ → Type 0
Asks (asks log q labels aboard result) given asked places seats = (given ≡ log) × (asked ≡ q) × (places ≡ labels) × (seats ≡ aboard)
Asks (reads bytes result) given asked places seats = ⊥

-- these are the bytes of a case
abbrev pub IsReadFrom : Case → List ℕ → Type 0
IsReadFrom (asks log q labels aboard result) given = ⊥
IsReadFrom (reads bytes result) given = given ≡ bytes

-- what is seen of what was printed
abbrev pub seen : Result Printed QuestionRefusal → Result Shown Cause
seen (Ok p) = shown_in p.sheet p.legs (Ok p.answer)
seen (Err refusal) = Err (question_cause refusal)

-- what was printed is what must come of a case
abbrev pub Prints : Case → Result Printed QuestionRefusal → Type 0
Prints (asks log q labels aboard result) r = seen r ≡ result
Prints (reads bytes result) r = ⊥

-- an answer where bytes were read is what must come of a case
abbrev pub Reads : Case → Result ℕ Refusal → Type 0
Reads (asks log q labels aboard result) answer = ⊥
Reads (reads bytes result) answer = told answer ≡ result
