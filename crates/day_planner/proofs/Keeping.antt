-- What is promised of an entry holds of the defined reply, and so of each entry of a log.
use Rattle.std.proofs.Common.{◌≡◌, ◌<◌, true, List, [], ◌∷◌, ◌++◌, Ok, Err, Result, sym, refl, subst}
use Rattle.timetable.specs.Refusals.{Cause as TripCause}
use Rattle.timetable.specs.Rule.{keeps}
use Rattle.timetable.specs.Table.{trips_of}
use Rattle.fares.specs.declared.fare_state.FareState.{FareState}
use Rattle.journeys.specs.declared.question.Question.{Question}
use Rattle.journeys.specs.Fare.{FareLaws}
use Rattle.journeys.specs.Selection.{price_bound}
use Rattle.service_day.specs.declared.refusal.Refusal.{Refusal as TripRefusal}
use Rattle.service_day.specs.Causes.{MayNotCancel, MayNotReinstate, MayNotDelay, RefusesFor}
use Rattle.service_day.specs.Days.{cancelling, reinstating, delaying}
use Rattle.service_day.specs.DayStates.{DayState, meant_on}
use Rattle.service_day.specs.LayerRule.{both_keep}
use Rattle.service_day.specs.Refusals.{told}
use Rattle.service_day.proofs.Standing.{cancel_refuses, reinstate_refuses, delay_refuses}
use Rattle.sheet.specs.Promise.{Only, Never}
use Rattle.planner.specs.declared.answer.Answer.{Answer}
use Rattle.planner.specs.declared.refusal.Refusal.{Refusal as AskRefusal}
use Rattle.planner.specs.Causes.{TellsCause as QuestionTells}
use Rattle.planner.specs.Outcome.{Memory, space_in}
use Rattle.day_planner.specs.declared.entry.Entry.{Entry}
use Rattle.day_planner.specs.declared.entry.Entry.TheVariants.{Cancel, Reinstate, Delay, Ask}
use Rattle.day_planner.specs.declared.refusal.Refusal.{Refusal}
use Rattle.day_planner.specs.declared.reply.Reply.{Reply}
use Rattle.day_planner.specs.Entering.{for_trip, TellsCause, EntryPromise, EachEntryPromise}
use Rattle.day_planner.specs.Log.{Basis, after, day_after, asked_on, done, answered, reply_to, memory_left, memory_after}
use Rattle.day_planner.specs.Promise.{fare_of}
use Rattle.day_planner.specs.Refusals.{cause}
use Rattle.day_planner.proofs.Promised.{over_hops}

-- the cause of a trip's refusal, as that of an entry
abbrev TripTells : (TripCause → Type 0) → Result Reply Refusal → Type 0
TripTells Stands (Ok reply) = Never (λ c. Stands (for_trip c))
TripTells Stands (Err refusal) = Only (λ c. Stands (for_trip c)) (cause refusal)

trip_tells : {X : Type 0} (Stands : TripCause → Type 0) (o : Result X TripRefusal) → RefusesFor Stands (told o) → TripTells Stands (done o)
trip_tells Stands (Ok x) r = λ c s. r (for_trip c) s
trip_tells Stands (Err refusal) r = record {
  stands = r.0;
  alone = λ other s. let e = r.1 (for_trip other) s in λ v. record { number = (e v).number; values = (e v).values };
}

module _ {K W : Type 0} (b : Basis K W) (rule : keeps b.hops ≡ true) (laws : FareLaws (fare_of b)) (low : (s : FareState K W) → (fare_of b).price s < price_bound) where
  question_tells : (d : DayState) (m : Memory (FareState K W)) (q : Question) (r : Result Answer AskRefusal) → QuestionTells (fare_of b) (meant_on d b.hops) b.stops b.paths q (space_in m) r → TellsCause b d (space_in m) (Ask q) (answered r)
  question_tells d m q (Ok answer) t = t
  question_tells d m q (Err refusal) t = t

  -- the defined reply to an entry keeps what is promised
  pub entry_kept : (d : DayState) (m : Memory (FareState K W)) (e : Entry) → EntryPromise b d m e (reply_to b d m e) (memory_left b d m e)
  entry_kept d m (Cancel trip) = record {
    cause = trip_tells (MayNotCancel (trips_of b.hops) trip d.cancelled) (cancelling (trips_of b.hops) trip d.cancelled) (cancel_refuses (trips_of b.hops) trip d.cancelled _ refl);
    question = tt;
  }
  entry_kept d m (Reinstate trip) = record {
    cause = trip_tells (MayNotReinstate (trips_of b.hops) trip d.cancelled) (reinstating (trips_of b.hops) trip d.cancelled) (reinstate_refuses (trips_of b.hops) trip d.cancelled _ refl);
    question = tt;
  }
  entry_kept d m (Delay trip seconds) = record {
    cause = trip_tells (MayNotDelay (trips_of b.hops) trip seconds d.delay) (delaying (trips_of b.hops) trip seconds d.delay) (delay_refuses (trips_of b.hops) trip seconds d.delay _ refl);
    question = tt;
  }
  entry_kept d m (Ask q) =
      let p = over_hops b rule laws low (meant_on d b.hops) (both_keep d.cancelled d.delay b.hops rule) q m in
      record {
        cause = question_tells d m q (asked_on b d q m).answer p.cause;
        question = record { answer = (asked_on b d q m).answer; told = refl; promise = p };
      }

  -- and so does a call that replies so
  pub reply_kept : (d : DayState) (m : Memory (FareState K W)) (e : Entry) (reply : Result Reply Refusal) (n : Memory (FareState K W)) → reply ≡ reply_to b d m e → n ≡ memory_left b d m e → EntryPromise b d m e reply n
  reply_kept d m e reply n r l =
      subst (λ (x : Result Reply Refusal). EntryPromise b d m e x n) (sym r)
      (subst (λ (k : Memory (FareState K W)). EntryPromise b d m e (reply_to b d m e) k) (sym l) (entry_kept d m e))

  -- the memory after one entry more
  memory_more : (d : DayState) (m : Memory (FareState K W)) (before : List Entry) (e : Entry) → memory_after b d m (before ++ e ∷ []) ≡ memory_left b (day_after (trips_of b.hops) d before) (memory_after b d m before) e
  memory_more d m [] e = refl
  memory_more d m (x ∷ before) e = memory_more (after (trips_of b.hops) d x) (memory_left b d m x) before e

  pub each_kept : (d : DayState) (m : Memory (FareState K W)) (log : List Entry) → EachEntryPromise b d m log
  each_kept d m log before e rest is =
      let day = day_after (trips_of b.hops) d before in
      let memory = memory_after b d m before in
      reply_kept day memory e (reply_to b day memory e) (memory_after b d m (before ++ e ∷ [])) refl (memory_more d m before e)
