-- What is promised of an entry of a log, and so of each entry of a whole log.
-- Assumes nothing.
use Rattle.std.specs.Prelude.{◌≡◌, List, [], ◌∷◌, ◌++◌, Ok, Err, Result}
use Rattle.timetable.specs.declared.hops.Hop.{Hop}
use Rattle.timetable.specs.Refusals.{Cause as TripCause}
use Rattle.timetable.specs.Table.{trips_of}
use Rattle.fares.specs.declared.fare_state.FareState.{FareState}
use Rattle.journeys.specs.declared.question.Question.{Question}
use Rattle.service_day.specs.Causes.{MayNotCancel, MayNotReinstate, MayNotDelay}
use Rattle.service_day.specs.DayStates.{DayState, meant_on}
use Rattle.sheet.specs.Promise.{Only, Never}
use Rattle.sheet.specs.Refusals.{Cause}
use Rattle.planner.specs.declared.answer.Answer.{Answer}
use Rattle.planner.specs.declared.refusal.Refusal.{Refusal as AskRefusal}
use Rattle.planner.specs.Causes.{NotAnswered}
use Rattle.planner.specs.Outcome.{Memory, Space, space_in}
use Rattle.day_planner.specs.declared.entry.Entry.{Entry}
use Rattle.day_planner.specs.declared.entry.Entry.TheVariants.{Cancel, Reinstate, Delay, Ask}
use Rattle.day_planner.specs.declared.refusal.Refusal.{Refusal}
use Rattle.day_planner.specs.declared.reply.Reply.{Reply}
use Rattle.day_planner.specs.Log.{Basis, day_after, answered, reply_to, memory_after}
use Rattle.day_planner.specs.Promise.{Promise, fare_of}
use Rattle.day_planner.specs.Refusals.{cause}

-- a number with its values, as trips are refused for
abbrev pub for_trip : Cause → TripCause
for_trip c = record { number = c.number; values = c.values }

-- why an entry is not taken on a day, by its cause; a question is put over the hops that are then meant
abbrev pub NotTaken : {K W : Type 0} → Basis K W → DayState → Space → Entry → Cause → Type 0
NotTaken b d space (Cancel trip) c = MayNotCancel (trips_of b.hops) trip d.cancelled (for_trip c)
NotTaken b d space (Reinstate trip) c = MayNotReinstate (trips_of b.hops) trip d.cancelled (for_trip c)
NotTaken b d space (Delay trip seconds) c = MayNotDelay (trips_of b.hops) trip seconds d.delay (for_trip c)
NotTaken b d space (Ask q) c = NotAnswered (fare_of b) (meant_on d b.hops) b.stops b.paths q space c

-- an entry that is taken has no cause; a refused one has that of its refusal, and no other
abbrev pub TellsCause : {K W : Type 0} → Basis K W → DayState → Space → Entry → Result Reply Refusal → Type 0
TellsCause b d space e (Ok reply) = Never (NotTaken b d space e)
TellsCause b d space e (Err refusal) = Only (NotTaken b d space e) (cause refusal)

-- the reply tells the answer to a question, of which the promise holds
pub record QuestionIsAnswered {K W : Type 0} (b : Basis K W) (hops : List Hop) (q : Question) (m : Memory (FareState K W)) (reply : Result Reply Refusal) (n : Memory (FareState K W)) : Type 0 where
  pub answer : Result Answer AskRefusal
  pub told : reply ≡ answered answer
  pub promise : Promise b hops q m answer n

-- a question is answered over the hops that are meant on the day
abbrev pub EntryIsAnswered : {K W : Type 0} → Basis K W → DayState → Memory (FareState K W) → Entry → Result Reply Refusal → Memory (FareState K W) → Type 0
EntryIsAnswered b d m (Cancel trip) reply n = Unit {0}
EntryIsAnswered b d m (Reinstate trip) reply n = Unit {0}
EntryIsAnswered b d m (Delay trip seconds) reply n = Unit {0}
EntryIsAnswered b d m (Ask q) reply n = QuestionIsAnswered b (meant_on d b.hops) q m reply n

-- The entry e, taken on the day d with the memory m, is replied to so and leaves the memory n.
pub record EntryPromise {K W : Type 0} (b : Basis K W) (d : DayState) (m : Memory (FareState K W)) (e : Entry) (reply : Result Reply Refusal) (n : Memory (FareState K W)) : Type 0 where
  -- a refusal is for the one cause that stands
  pub cause : TellsCause b d (space_in m) e reply
  -- a question that was put keeps its own promise
  pub question : EntryIsAnswered b d m e reply n

-- Each entry of a log that begins on the day d with the memory m keeps its promise: on the day after the entries before it,
-- with the memory that these have left.
abbrev pub EachEntryPromise : {K W : Type 0} → Basis K W → DayState → Memory (FareState K W) → List Entry → Type 0
EachEntryPromise b d m log =
    (before : List Entry) (e : Entry) (rest : List Entry) → log ≡ before ++ e ∷ rest →
    let day = day_after (trips_of b.hops) d before in
    let memory = memory_after b d m before in
    EntryPromise b day memory e (reply_to b day memory e) (memory_after b d m (before ++ e ∷ []))
