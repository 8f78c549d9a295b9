-- What is recorded of an entry of a log, and of a question whose sheet was claimed; and what that shows.
-- Assumes nothing.
use Rattle.std.specs.Prelude.{◌≡◌, ℕ, List, ◌++◌, length, map, take, Ok, Err, Result}
use Rattle.std.specs.List.{flat_map}
use Rattle.fares.specs.declared.fare_state.FareState.{FareState}
use Rattle.journeys.specs.declared.question.Question.{Question}
use Rattle.journeys.specs.Journey.{Setup}
use Rattle.journeys.specs.Lists.{Each, Somewhere}
use Rattle.journeys.specs.Offers.{Offer, Best}
use Rattle.service_day.specs.DayStates.{DayState, meant_on}
use Rattle.sheet.specs.Format.{encode}
use Rattle.planner.specs.declared.answer.Answer.{Answer}
use Rattle.planner.specs.Outcome.{Memory}
use Rattle.planner.specs.Promise.{Connection, HandedOut, offers, spelled_out}
use Rattle.day_planner.specs.declared.entry.Entry.{Entry}
use Rattle.day_planner.specs.declared.entry.Entry.TheVariants.{Cancel, Reinstate, Delay, Ask}
use Rattle.day_planner.specs.declared.refusal.Refusal.{Refusal}
use Rattle.day_planner.specs.declared.reply.Reply.{Reply}
use Rattle.day_planner.specs.declared.reply.Reply.TheVariants.{Done, Answered}
use Rattle.day_planner.specs.Entering.{EntryPromise}
use Rattle.day_planner.specs.Log.{Basis, reply_to, memory_left}
use Rattle.day_planner.specs.Promise.{journeys_over}
use Rattle.records.specs.Records.{counts_line, sheet_line, leg_line, reply_record, claim_record, same_line}
use Rattle.case_lines.specs.Reading.{line_of, claims}
use Rattle.case_lines.specs.Written.{claim_text, HasFields, AreBytes}

-- the reply to an entry, with the sheet and the legs that it leaves
abbrev pub entry_record : {K W : Type 0} → Basis K W → DayState → Memory (FareState K W) → Entry → List ℕ
entry_record b d m e = reply_record (reply_to b d m e) (memory_left b d m e).sheet (memory_left b d m e).legs

-- the same of a question, and whether the sheet is the one that was claimed
abbrev pub asked_record : {K W : Type 0} → Basis K W → DayState → Memory (FareState K W) → Question → List ℕ → List ℕ
asked_record b d m q claimed = entry_record b d m (Ask q) ++ claim_record (reply_to b d m (Ask q)) (memory_left b d m (Ask q)).sheet claimed

-- A record shows the best offers of a question, and no others: how much was written of each list, the sheet of rows that are
-- these offers, and the legs of journeys that have them.
pub record BestOffersAreRecorded {S : Type 0} (w : Setup S) (dest limit : ℕ) (answer : Answer) (record_of : List ℕ) : Type 0 where
  pub connections : List Connection
  pub rows : length connections ≡ answer.rows
  pub lines : record_of ≡ counts_line answer ++ sheet_line (encode (map (λ c. c.row) connections)) ++ flat_map leg_line (spelled_out 0 connections)
  -- each row is the offer of the journey that its legs spell out, and is a best offer
  pub handed : Each (HandedOut w dest limit) connections
  pub best : Each (λ c. Best w dest limit (offers c)) connections
  -- each best offer is a row
  pub all : (o : Offer) → Best w dest limit o → Somewhere (λ c. offers c ≡ o) connections

-- of an answered question its best offers are recorded, over the hops that are meant on the day
abbrev pub RecordShowsBest : {K W : Type 0} → Basis K W → DayState → Entry → Result Reply Refusal → List ℕ → Type 0
RecordShowsBest b d (Ask q) (Ok (Answered a)) lines = BestOffersAreRecorded (journeys_over b (meant_on d b.hops) q) q.destination q.rides a lines
RecordShowsBest b d (Ask q) (Ok Done) lines = Unit {0}
RecordShowsBest b d (Ask q) (Err refusal) lines = Unit {0}
RecordShowsBest b d (Cancel trip) reply lines = Unit {0}
RecordShowsBest b d (Reinstate trip) reply lines = Unit {0}
RecordShowsBest b d (Delay trip seconds) reply lines = Unit {0}

-- What is promised of an entry of a log and of its record, where it is taken on the day d with the memory m and leaves the memory n.
pub record RecordPromise {K W : Type 0} (b : Basis K W) (d : DayState) (m : Memory (FareState K W)) (e : Entry) (n : Memory (FareState K W)) : Type 0 where
  pub entry : EntryPromise b d m e (reply_to b d m e) n
  pub shown : RecordShowsBest b d e (reply_to b d m e) (entry_record b d m e)

-- The line of a question with the sheet that was recorded of it is read as a claim of just this sheet, and this claim is met.
abbrev pub SheetIsReadBack : {K W : Type 0} → Basis K W → DayState → Memory (FareState K W) → Question → Type 0
SheetIsReadBack b d m q =
    (a : Answer) → reply_to b d m (Ask q) ≡ Ok (Answered a) →
    let bytes = take a.bytes (memory_left b d m (Ask q)).sheet in
    HasFields (Ask q) → AreBytes bytes →
    (line_of (claim_text q bytes) ≡ Ok (claims q bytes)) × (claim_record (reply_to b d m (Ask q)) (memory_left b d m (Ask q)).sheet bytes ≡ same_line)
