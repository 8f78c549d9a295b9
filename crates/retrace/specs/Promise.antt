-- What is promised of legs that are retraced on a travel.
-- Assumes nothing; the weight is that of a lawful measure, where nothing ridden weighs nothing.
use Rattle.std.specs.Prelude.{◌≡◌, ℕ, List, map, length, take, Ok, Err, Result, is_ok, Decides}
use Rattle.timetable.specs.declared.hops.Hop.{Hop}
use Rattle.fares.specs.declared.fare_state.FareState.{FareState}
use Rattle.fares.specs.Measures.{MeasureModel}
use Rattle.fares.specs.Tariffs.{TariffModel}
use Rattle.journeys.specs.declared.leg.Leg.{Leg as SheetLeg}
use Rattle.journeys.specs.Journey.{Leg}
use Rattle.retrace.specs.declared.fault.Fault.{Fault}
use Rattle.retrace.specs.declared.step.Step.{Step}
use Rattle.retrace.specs.declared.travel.Travel.{Travel}
use Rattle.retrace.specs.Missteps.{SpellsOut}
use Rattle.retrace.specs.Retracing.{Follows, IsRetraceable}
use Rattle.retrace.specs.Steps.{parts_of}
use Rattle.retrace.specs.Travels.{setup_of}
use Rattle.retrace.specs.Weights.{journey_weight, journey_fare}

module _ {T F M K W : Type 0} (hops : T → List Hop) (tariff : F → TariffModel K) (measure : M → MeasureModel W) (t : Travel T F M) (handed : List SheetLeg) where
  -- the legs are a journey, whose steps are written, or which leg is the first that does not follow or has no room
  abbrev pub Retraces : List (Step (FareState K W)) → Result ℕ Fault → List (Step (FareState K W)) → Type 0
  Retraces old result new = Follows (setup_of hops tariff measure t) handed old result new

  -- they are answered exactly where they are a journey whose steps have room
  abbrev pub Accepts : List (Step (FareState K W)) → Result ℕ Fault → Type 0
  Accepts old result = Decides (is_ok result) (IsRetraceable (setup_of hops tariff measure t) handed (length old))

  -- the fares of the steps written are those at the ends of the parts of the journey
  abbrev pub FaresAreUpdates : Result ℕ Fault → List (Step (FareState K W)) → Type 0
  FaresAreUpdates (Ok n) steps = (ls : List Leg) → SpellsOut handed ls →
      map (λ s. s.state) (take n steps) ≡ map (journey_fare (tariff t.tariff.now) (measure t.measure.now) t.network.stops.now (setup_of hops tariff measure t)) (parts_of ls)
  FaresAreUpdates (Err fault) steps = Unit {0}

  -- the steps written weigh what the parts of the journey weigh
  abbrev pub WeightsAreSums : Result ℕ Fault → List (Step (FareState K W)) → Type 0
  WeightsAreSums (Ok n) steps = (ls : List Leg) → SpellsOut handed ls →
      map (λ s. s.state.weight) (take n steps) ≡ map (journey_weight (measure t.measure.now) t.network.stops.now (setup_of hops tariff measure t)) (parts_of ls)
  WeightsAreSums (Err fault) steps = Unit {0}
