-- What legs are retraced over: the journeys that a travel is about.
-- Assumes nothing.
use Rattle.std.specs.Prelude.{ℕ, List, take}
use Rattle.timetable.specs.declared.hops.Hop.{Hop}
use Rattle.timetable.specs.Table.{most_hops}
use Rattle.fares.specs.declared.fare_state.FareState.{FareState}
use Rattle.fares.specs.Measures.{MeasureModel}
use Rattle.fares.specs.Tariffs.{TariffModel}
use Rattle.journeys.specs.declared.network.Footpath.{Footpath}
use Rattle.journeys.specs.Fare.{FareModel}
use Rattle.journeys.specs.Journey.{Setup}
use Rattle.journeys.specs.NetworkFare.{fare_over}
use Rattle.retrace.specs.declared.course.Course.{Course}
use Rattle.retrace.specs.declared.travel.Travel.{Travel}

-- a timetable answers its hops below place 65,536 only: all of them, wherever a question can be asked
abbrev pub answered_hops : List Hop → List Hop
answered_hops hops = take most_hops hops

-- the journeys over these hops and footpaths, from here and then
abbrev pub setup_over : {S : Type 0} → FareModel S → List Hop → List Footpath → ℕ → ℕ → Setup S
setup_over f hops paths origin departure =
    record { fare = f; hops = answered_hops hops; paths = paths; origin = origin; departure = departure }

-- the journeys of a travel, by what its timetable, its tariff and its measure mean
abbrev pub setup_of : {T F M K W : Type 0} → (T → List Hop) → (F → TariffModel K) → (M → MeasureModel W) → Travel T F M → Setup (FareState K W)
setup_of hops tariff measure t =
    setup_over (fare_over (tariff t.tariff.now) (measure t.measure.now) t.network.stops.now) (hops t.timetable.now) t.network.paths.now t.origin t.departure

-- the same, where the fares are made already
abbrev pub course_setup : {T F S : Type 0} → (T → List Hop) → (F → FareModel S) → Course T F → Setup S
course_setup hops fare c = setup_over (fare c.fare.now) (hops c.timetable.now) c.paths.now c.origin c.departure
