-- The lines of a record: of a case, of a board that was not opened, of a reply to a log's entry, and of a claimed sheet.
-- Assumes nothing.
use Rattle.std.specs.Prelude.{◌≡◌, ◌≢◌, ℕ, ◌/◌, ◌%◌, Bool, false, List, [], ◌∷◌, ◌++◌, take, map, Ok, Err, Result, if◌then◌else◌, codes, decimal}
use Rattle.std.specs.Fmt.{digit_glyph}
use Rattle.std.specs.List.{flat_map, join_with_byte}
use Rattle.std.specs.Str.{bytes_eq}
use Rattle.timetable.specs.Refusals.{cause as timetable_cause}
use Rattle.fares.specs.Refusals.{cause as fares_cause}
use Rattle.rule_table.specs.Refusals.{cause as table_cause}
use Rattle.service_day.specs.Refusals.{cause as trip_cause}
use Rattle.planner.specs.Refusals.{cause as question_cause}
use Rattle.journeys.specs.declared.leg.Leg.{Leg}
use Rattle.journeys.specs.declared.leg.LegKind.{LegKind}
use Rattle.journeys.specs.declared.leg.LegKind.TheVariants.{Walk, Ride}
use Rattle.planner.specs.declared.answer.Answer.{Answer}
use Rattle.day_planner.specs.declared.refusal.Refusal.{Refusal}
use Rattle.day_planner.specs.declared.refusal.Refusal.TheVariants.{Trip, Question}
use Rattle.day_planner.specs.declared.reply.Reply.{Reply}
use Rattle.day_planner.specs.declared.reply.Reply.TheVariants.{Done, Answered}
use Rattle.records.specs.declared.opening_refusal.OpeningRefusal.{OpeningRefusal}
use Rattle.records.specs.declared.opening_refusal.OpeningRefusal.TheVariants.{Timetable, Table, Fares}

-- the line that begins a case
abbrev pub case_record : List ℕ → List ℕ
case_record name = codes "case " ++ name ++ 10 ∷ []

-- a value, behind a blank
abbrev pub spaced : ℕ → List ℕ
spaced value = 32 ∷ decimal value

-- the line of a refusal, by its number and its values
abbrev pub refused : ℕ → List ℕ → List ℕ
refused number values = codes "refused " ++ decimal number ++ flat_map spaced values ++ 10 ∷ []

-- the line of a board that was not opened
abbrev pub opening_record : OpeningRefusal → List ℕ
opening_record (Timetable refusal) = refused (timetable_cause refusal).number (timetable_cause refusal).values
opening_record (Table refusal) = refused (table_cause refusal).0 (table_cause refusal).1
opening_record (Fares refusal) = refused (fares_cause refusal).0 (fares_cause refusal).1

-- the line of a refused entry
abbrev pub refusal_record : Refusal → List ℕ
refusal_record (Trip refusal) = refused (trip_cause refusal).number (trip_cause refusal).values
refusal_record (Question refusal) = refused (question_cause refusal).number (question_cause refusal).values

-- how much a question wrote of each list
abbrev pub counts_line : Answer → List ℕ
counts_line a =
    codes "rows " ++ decimal a.rows ++ codes " labels " ++ decimal a.labels ++ codes " bytes " ++ decimal a.bytes
    ++ codes " legs " ++ decimal a.legs ++ 10 ∷ []

-- a byte in two lower-case hexadecimal digits
abbrev pub hex : ℕ → List ℕ
hex byte = digit_glyph false (byte / 16) ∷ digit_glyph false (byte % 16) ∷ []

-- the bytes of a sheet, with a blank between each two
abbrev pub sheet_text : List ℕ → List ℕ
sheet_text bytes = join_with_byte 32 (map hex bytes)

abbrev pub sheet_line : List ℕ → List ℕ
sheet_line bytes = sheet_text bytes ++ 10 ∷ []

-- 0 for a walk, 1 for a ride
abbrev pub kind_number : LegKind → ℕ
kind_number Walk = 0
kind_number Ride = 1

-- a leg by its row, its kind, and where it begins and ends
abbrev pub leg_line : Leg → List ℕ
leg_line leg = decimal leg.row ++ spaced (kind_number leg.kind) ++ spaced leg.first ++ spaced leg.last ++ 10 ∷ []

-- the lines of an entry that was taken: an answered question has so much of the sheet and of the legs
abbrev pub taken_record : Reply → List ℕ → List Leg → List ℕ
taken_record Done sheet legs = codes "ok" ++ 10 ∷ []
taken_record (Answered a) sheet legs = counts_line a ++ sheet_line (take a.bytes sheet) ++ flat_map leg_line (take a.legs legs)

-- the lines of a reply, by what the sheet and the legs hold after it
abbrev pub reply_record : Result Reply Refusal → List ℕ → List Leg → List ℕ
reply_record (Ok reply) sheet legs = taken_record reply sheet legs
reply_record (Err refusal) sheet legs = refusal_record refusal

-- whether the claimed bytes are the sheet of an answered question
abbrev pub is_sheet_of : Reply → List ℕ → List ℕ → Bool
is_sheet_of Done sheet claimed = false
is_sheet_of (Answered a) sheet claimed = bytes_eq (take a.bytes sheet) claimed

-- whether the claimed bytes are the sheet of a reply: a refused question has none
abbrev pub is_claim_met : Result Reply Refusal → List ℕ → List ℕ → Bool
is_claim_met (Ok reply) sheet claimed = is_sheet_of reply sheet claimed
is_claim_met (Err refusal) sheet claimed = false

-- the line of a claim that is met, and of one that is not
abbrev pub same_line : List ℕ
same_line = codes "same" ++ 10 ∷ []

abbrev pub differs_line : List ℕ
differs_line = codes "differs" ++ 10 ∷ []

-- the line of a claimed sheet
abbrev pub claim_record : Result Reply Refusal → List ℕ → List ℕ → List ℕ
claim_record reply sheet claimed = if is_claim_met reply sheet claimed then same_line else differs_line

-- A claim is told to be met exactly where the question was answered and the claimed bytes are its sheet, byte by byte.
abbrev pub ClaimIsTold : Result Reply Refusal → List ℕ → List ℕ → List ℕ → Type 0
ClaimIsTold (Ok (Answered a)) sheet claimed line =
    (claimed ≡ take a.bytes sheet → line ≡ same_line) × (claimed ≢ take a.bytes sheet → line ≡ differs_line)
ClaimIsTold (Ok Done) sheet claimed line = line ≡ differs_line
ClaimIsTold (Err refusal) sheet claimed line = line ≡ differs_line
