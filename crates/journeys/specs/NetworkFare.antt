-- The fares that a tariff and a measure make over the stops of a network.
-- Assumes nothing.
use Rattle.std.specs.Prelude.{ℕ, List, slice_index_or}
use Rattle.fares.specs.declared.fare_state.FareState.{FareState}
use Rattle.fares.specs.FareStates.{start_state, update_state, change_state, covers_state}
use Rattle.fares.specs.Measures.{MeasureModel}
use Rattle.fares.specs.Tariffs.{TariffModel}
use Rattle.journeys.specs.declared.network.Stop.{Stop}
use Rattle.journeys.specs.Fare.{FareModel}

-- what stands for a stop that is none
abbrev pub no_stop : Stop
no_stop = record { zone = 0; class = 0 }

-- the stop of a number
abbrev pub stop_numbered : List Stop → ℕ → Stop
stop_numbered stops number = slice_index_or stops number no_stop

-- a fare starts with the class and the zone of a stop; a hop adds its weight, which its metres, its level and the
-- zone of the stop where it arrives make up
abbrev pub fare_over : {K W : Type 0} → TariffModel K → MeasureModel W → List Stop → FareModel (FareState K W)
fare_over t m stops = record {
  start = λ stop. start_state t m (stop_numbered stops stop).class (stop_numbered stops stop).zone;
  change = change_state t m;
  hop = λ h. update_state t m (m.hop h.metres h.level (stop_numbered stops h.to).zone) h.event;
  covers = covers_state t m;
  price = λ s. t.price s.ticket;
}
