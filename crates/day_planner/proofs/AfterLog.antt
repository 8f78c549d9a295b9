-- A question after a log on a new planner: from what the planner has told to the promise for the log.
use Rattle.std.proofs.Common.{◌≡◌, true, List, [], ◌∷◌, is_ok, Decides, Result, refl, ◌∙◌, subst}
use Rattle.timetable.specs.declared.hops.Hop.{Hop}
use Rattle.timetable.specs.Rule.{keeps}
use Rattle.timetable.specs.Table.{trips_of}
use Rattle.fares.specs.declared.fare_state.FareState.{FareState}
use Rattle.fares.specs.Measures.{MeasureModel}
use Rattle.fares.specs.Tariffs.{TariffModel}
use Rattle.journeys.specs.declared.network.Network.{Network}
use Rattle.journeys.specs.declared.question.Question.{Question}
use Rattle.service_day.specs.DayStates.{DayState, first_day, meant_on}
use Rattle.service_day.specs.LayerRule.{both_keep}
use Rattle.planner.specs.declared.answer.Answer.{Answer}
use Rattle.planner.specs.declared.refusal.Refusal.{Refusal}
use Rattle.planner.specs.Acceptance.{Acceptable}
use Rattle.planner.specs.Causes.{TellsCause}
use Rattle.planner.specs.Lent.{Ends}
use Rattle.planner.specs.Outcome.{Memory, Space, space_in}
use Rattle.day_planner.specs.declared.entry.Entry.{Entry}
use Rattle.day_planner.specs.declared.entry.Entry.TheVariants.{Cancel, Reinstate, Delay, Ask}
use Rattle.day_planner.specs.Log.{Basis, after, day_after, hops_after, asked_on, memory_left, memory_after, asked_after}
use Rattle.day_planner.specs.Planners.{Parts, basis}
use Rattle.day_planner.specs.Promise.{Promise, fare_of}
use Rattle.day_planner.specs.Rooms.{SameRoom}
use Rattle.day_planner.proofs.Sizes.{asked_sizes}

-- Sizes: the questions of a log leave each list as long as it was, so that a question after the log is accepted exactly
-- where it would be with the lists as they were handed in.

sizes_refl : {S : Type 0} (m : Memory S) → SameRoom m m
sizes_refl m = record { labels = refl; aboard = refl; sheet = refl; legs = refl }

sizes_trans : {S : Type 0} (m n k : Memory S) → SameRoom m n → SameRoom n k → SameRoom m k
sizes_trans m n k a b = record { labels = b.labels ∙ a.labels; aboard = b.aboard ∙ a.aboard; sheet = b.sheet ∙ a.sheet; legs = b.legs ∙ a.legs }

module _ {K W : Type 0} (b : Basis K W) (rule : keeps b.hops ≡ true) where
  entry_sizes : (d : DayState) (m : Memory (FareState K W)) (e : Entry) → SameRoom m (memory_left b d m e)
  entry_sizes d m (Cancel trip) = sizes_refl m
  entry_sizes d m (Reinstate trip) = sizes_refl m
  entry_sizes d m (Delay trip seconds) = sizes_refl m
  entry_sizes d m (Ask q) = asked_sizes (fare_of b) (meant_on d b.hops) b.stops b.paths q m (both_keep d.cancelled d.delay b.hops rule)

  pub log_sizes : (d : DayState) (m : Memory (FareState K W)) (log : List Entry) → SameRoom m (memory_after b d m log)
  log_sizes d m [] = sizes_refl m
  log_sizes d m (e ∷ log) =
      sizes_trans m (memory_left b d m e) (memory_after b (after (trips_of b.hops) d e) (memory_left b d m e) log)
      (entry_sizes d m e) (log_sizes (after (trips_of b.hops) d e) (memory_left b d m e) log)

-- of the memory before, a promise speaks by the sizes of its lists alone
pub promise_there : {K W : Type 0} (b : Basis K W) (hops : List Hop) (q : Question) (m n : Memory (FareState K W)) (r : Result Answer Refusal) (k : Memory (FareState K W)) → SameRoom m n → Promise b hops q n r k → Promise b hops q m r k
promise_there b hops q m n r k s p =
    let same : space_in n ≡ space_in m = λ v. record { labels = s.labels v; aboard = s.aboard v; sheet = s.sheet v; legs = s.legs v } in
    record {
      accepted = subst (λ (x : Space). Decides (is_ok r) (Acceptable (fare_of b) hops b.stops b.paths q x)) same p.accepted;
      cause = subst (λ (x : Space). TellsCause (fare_of b) hops b.stops b.paths q x r) same p.cause;
      shown = p.shown;
      labels = p.labels;
    }

-- A planner was made of the parts P and has run a log.
module _ {T F M K W : Type 0} (hops : T → List Hop) (tariff : F → TariffModel K) (measure : M → MeasureModel W) (network : Network) (log : List Entry)
    (P p₀ p₁ : Parts T F M) (d₀ d₁ : DayState) (m₀ m₁ : Memory (FareState K W))
    (made : p₀ ≡ P) (new : d₀ ≡ first_day) (kept : p₁ ≡ p₀)
    (ran : d₁ ≡ day_after (trips_of (hops p₀.timetable)) d₀ log)
    (left : m₁ ≡ memory_after (basis hops tariff measure p₀ network) d₀ m₀ log) where
  abbrev B : Basis K W
  B = basis hops tariff measure P network

  same : p₁ ≡ P
  same = kept ∙ made

  day : d₁ ≡ day_after (trips_of (hops P.timetable)) first_day log
  day = ran ∙ (λ v. day_after (trips_of (hops (made v).timetable)) (new v) log)

  memory : m₁ ≡ memory_after B first_day m₀ log
  memory = left ∙ (λ v. memory_after (basis hops tariff measure (made v) network) (new v) m₀ log)

  module _ (q : Question) (r : Result Answer Refusal) (m₂ : Memory (FareState K W)) where
    pub outcome_after : Ends (asked_on (basis hops tariff measure p₁ network) d₁ q m₁) r m₂ → Ends (asked_after B log q m₀) r m₂
    outcome_after e = subst (λ o. Ends o r m₂) (λ v. asked_on (basis hops tariff measure (same v) network) (day v) q (memory v)) e

    pub promise_after : keeps (hops P.timetable) ≡ true → Promise (basis hops tariff measure p₁ network) (meant_on d₁ (hops p₁.timetable)) q m₁ r m₂ → Promise B (hops_after (hops P.timetable) log) q m₀ r m₂
    promise_after rule p =
        promise_there B (hops_after (hops P.timetable) log) q m₀ (memory_after B first_day m₀ log) r m₂ (log_sizes B rule first_day m₀ log)
        (subst (λ (m : Memory (FareState K W)). Promise B (hops_after (hops P.timetable) log) q m r m₂) memory
        (subst (λ (d : DayState). Promise B (meant_on d (hops P.timetable)) q m₁ r m₂) day
        (subst (λ (x : Parts T F M). Promise (basis hops tariff measure x network) (meant_on d₁ (hops x.timetable)) q m₁ r m₂) same p)))
