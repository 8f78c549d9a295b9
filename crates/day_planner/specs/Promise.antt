-- What is promised of a question on any day, and so after any log.
-- Assumes nothing.
use Rattle.std.specs.Prelude.{List, Result}
use Rattle.timetable.specs.declared.hops.Hop.{Hop}
use Rattle.fares.specs.declared.fare_state.FareState.{FareState}
use Rattle.journeys.specs.declared.question.Question.{Question}
use Rattle.journeys.specs.Fare.{FareModel}
use Rattle.journeys.specs.Journey.{Setup}
use Rattle.journeys.specs.NetworkFare.{fare_over}
use Rattle.planner.specs.declared.answer.Answer.{Answer}
use Rattle.planner.specs.declared.refusal.Refusal.{Refusal}
use Rattle.planner.specs.Asking.{Promise as PromiseOf}
use Rattle.planner.specs.Outcome.{Memory}
use Rattle.planner.specs.Promise.{setup_of}
use Rattle.day_planner.specs.Log.{Basis}

-- the fares of a tariff and a measure over the stops
abbrev pub fare_of : {K W : Type 0} → Basis K W → FareModel (FareState K W)
fare_of b = fare_over b.tariff b.measure b.stops

-- the journeys that a question is about, where these hops are meant
abbrev pub journeys_over : {K W : Type 0} → Basis K W → List Hop → Question → Setup (FareState K W)
journeys_over b hops q = setup_of (fare_of b) hops b.paths q

-- The question q, over a basis of which these hops are meant, with the memory m, is answered r and leaves the memory n.
abbrev pub Promise : {K W : Type 0} → Basis K W → List Hop → Question → Memory (FareState K W) → Result Answer Refusal → Memory (FareState K W) → Type 0
Promise b hops q m r n = PromiseOf (fare_of b) hops b.stops b.paths q m r n
