-- What a log makes of a day, of the hops that a board then means, and of the memory that its questions are lent.
-- Assumes nothing.
use Rattle.std.specs.Prelude.{ℕ, List, [], ◌∷◌, Ok, Err, fold, Result}
use Rattle.timetable.specs.declared.hops.Hop.{Hop}
use Rattle.timetable.specs.Table.{trips_of}
use Rattle.fares.specs.declared.fare_state.FareState.{FareState}
use Rattle.fares.specs.Measures.{MeasureModel}
use Rattle.fares.specs.Tariffs.{TariffModel}
use Rattle.journeys.specs.declared.network.Footpath.{Footpath}
use Rattle.journeys.specs.declared.network.Stop.{Stop}
use Rattle.journeys.specs.declared.question.Question.{Question}
use Rattle.service_day.specs.declared.refusal.Refusal.{Refusal as TripRefusal}
use Rattle.service_day.specs.Days.{cancelling, reinstating, delaying}
use Rattle.service_day.specs.DayStates.{DayState, first_day, after_cancel, after_reinstate, after_delay, meant_on}
use Rattle.planner.specs.declared.answer.Answer.{Answer}
use Rattle.planner.specs.declared.refusal.Refusal.{Refusal as AskRefusal}
use Rattle.planner.specs.Outcome.{Memory, Outcome, asked_of}
use Rattle.day_planner.specs.declared.entry.Entry.{Entry}
use Rattle.day_planner.specs.declared.entry.Entry.TheVariants.{Cancel, Reinstate, Delay, Ask}
use Rattle.day_planner.specs.declared.refusal.Refusal.{Refusal}
use Rattle.day_planner.specs.declared.refusal.Refusal.TheVariants.{Trip, Question as Unanswered}
use Rattle.day_planner.specs.declared.reply.Reply.{Reply}
use Rattle.day_planner.specs.declared.reply.Reply.TheVariants.{Done, Answered}

-- the day after an entry, where there are so many trips: a refused entry alters nothing, and neither does a question
abbrev pub after : ℕ → DayState → Entry → DayState
after trips d (Cancel trip) = after_cancel trips trip d
after trips d (Reinstate trip) = after_reinstate trips trip d
after trips d (Delay trip seconds) = after_delay trips trip seconds d
after trips d (Ask question) = d

-- the day after a log
abbrev pub day_after : ℕ → DayState → List Entry → DayState
day_after trips d log = fold (after trips) d log

-- the hops that a new board means after a log
abbrev pub hops_after : List Hop → List Entry → List Hop
hops_after hops log = meant_on (day_after (trips_of hops) first_day log) hops

-- what a board answers from: a tariff, a measure, the hops of a timetable, and a network
pub record Basis (K W : Type 0) : Type 0 where
  pub tariff : TariffModel K
  pub measure : MeasureModel W
  pub hops : List Hop
  pub stops : List Stop
  pub paths : List Footpath

-- a question on a day
abbrev pub asked_on : {K W : Type 0} → Basis K W → DayState → Question → Memory (FareState K W) → Outcome (FareState K W)
asked_on b d q m = asked_of b.tariff b.measure (meant_on d b.hops) b.stops b.paths q m

-- the reply to a cancellation, a reinstatement or a delay
abbrev pub done : {X : Type 0} → Result X TripRefusal → Result Reply Refusal
done (Ok x) = Ok Done
done (Err refusal) = Err (Trip refusal)

-- the reply to a question
abbrev pub answered : Result Answer AskRefusal → Result Reply Refusal
answered (Ok answer) = Ok (Answered answer)
answered (Err refusal) = Err (Unanswered refusal)

-- the reply to an entry
abbrev pub reply_to : {K W : Type 0} → Basis K W → DayState → Memory (FareState K W) → Entry → Result Reply Refusal
reply_to b d m (Cancel trip) = done (cancelling (trips_of b.hops) trip d.cancelled)
reply_to b d m (Reinstate trip) = done (reinstating (trips_of b.hops) trip d.cancelled)
reply_to b d m (Delay trip seconds) = done (delaying (trips_of b.hops) trip seconds d.delay)
reply_to b d m (Ask question) = answered (asked_on b d question m).answer

-- the memory after an entry: only a question writes
abbrev pub memory_left : {K W : Type 0} → Basis K W → DayState → Memory (FareState K W) → Entry → Memory (FareState K W)
memory_left b d m (Cancel trip) = m
memory_left b d m (Reinstate trip) = m
memory_left b d m (Delay trip seconds) = m
memory_left b d m (Ask question) = (asked_on b d question m).left

-- the memory after a log that begins on a day
abbrev pub memory_after : {K W : Type 0} → Basis K W → DayState → Memory (FareState K W) → List Entry → Memory (FareState K W)
memory_after b d m [] = m
memory_after b d m (e ∷ log) = memory_after b (after (trips_of b.hops) d e) (memory_left b d m e) log

-- a question after a log, on a new board
abbrev pub asked_after : {K W : Type 0} → Basis K W → List Entry → Question → Memory (FareState K W) → Outcome (FareState K W)
asked_after b log q m = asked_on b (day_after (trips_of b.hops) first_day log) q (memory_after b first_day m log)
