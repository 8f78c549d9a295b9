-- The promise, for the defined outcome of a question after any log.
use Rattle.std.proofs.Common.{◌≡◌, ◌<◌, true, List, Result}
use Rattle.timetable.specs.declared.hops.Hop.{Hop}
use Rattle.timetable.specs.Rule.{keeps}
use Rattle.timetable.specs.Table.{trips_of}
use Rattle.fares.specs.declared.fare_state.FareState.{FareState}
use Rattle.journeys.specs.declared.question.Question.{Question}
use Rattle.journeys.specs.Fare.{FareLaws}
use Rattle.journeys.specs.Selection.{price_bound}
use Rattle.service_day.specs.DayStates.{first_day}
use Rattle.service_day.specs.LayerRule.{both_keep}
use Rattle.planner.specs.declared.answer.Answer.{Answer}
use Rattle.planner.specs.declared.refusal.Refusal.{Refusal}
use Rattle.planner.specs.Lent.{Ends}
use Rattle.planner.specs.Outcome.{Memory, Outcome, asked}
use Rattle.planner.proofs.Asked.{asked_kept}
use Rattle.day_planner.specs.declared.entry.Entry.{Entry}
use Rattle.day_planner.specs.Log.{Basis, day_after, hops_after, memory_after, asked_after}
use Rattle.day_planner.specs.Promise.{Promise, fare_of}
use Rattle.day_planner.proofs.AfterLog.{promise_there, log_sizes}

-- a call that ends so leaves this memory
pub left_is : {S : Type 0} (o : Outcome S) (a : Result Answer Refusal) (m : Memory S) → Ends o a m → m ≡ o.left
left_is o a m e = λ v. record { labels = e.labels v; written = e.written v; aboard = e.aboard v; sheet = e.sheet v; legs = e.legs v }

module _ {K W : Type 0} (b : Basis K W) (rule : keeps b.hops ≡ true) (laws : FareLaws (fare_of b)) (low : (s : FareState K W) → (fare_of b).price s < price_bound) where
  -- over any hops that keep the rule
  pub over_hops : (hops : List Hop) → keeps hops ≡ true → (q : Question) (m : Memory (FareState K W)) → Promise b hops q m (asked (fare_of b) hops b.stops b.paths q m).answer (asked (fare_of b) hops b.stops b.paths q m).left
  over_hops hops kept q m = asked_kept (fare_of b) hops b.stops b.paths q m kept laws low

  pub promised_after : (log : List Entry) (q : Question) (m : Memory (FareState K W)) → Promise b (hops_after b.hops log) q m (asked_after b log q m).answer (asked_after b log q m).left
  promised_after log q m =
      let d = day_after (trips_of b.hops) first_day log in
      let o = asked_after b log q m in
      promise_there b (hops_after b.hops log) q m (memory_after b first_day m log) o.answer o.left (log_sizes b rule first_day m log)
      (over_hops (hops_after b.hops log) (both_keep d.cancelled d.delay b.hops rule) q (memory_after b first_day m log))
