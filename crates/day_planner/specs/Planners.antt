-- What a planner holds: the day, and what it was made of.
-- Assumes nothing.
use Rattle.std.specs.Prelude.{List}
use Rattle.timetable.specs.declared.hops.Hop.{Hop}
use Rattle.fares.specs.Measures.{MeasureModel}
use Rattle.fares.specs.Tariffs.{TariffModel}
use Rattle.journeys.specs.declared.network.Network.{Network}
use Rattle.service_day.specs.DayStates.{DayState}
use Rattle.service_day.specs.Layers.{base, day_of}
use Rattle.planner.specs.Lent.{stops_of, paths_of}
use Rattle.day_planner.specs.declared.board_planner.Planner.{Planner}
use Rattle.day_planner.specs.Log.{Basis}

-- the state of the day
abbrev pub day_in : {T F M : Type 0} → Planner T F M → DayState
day_in p = day_of p.day

-- the timetable below the day, the tariff and the measure
pub record Parts (T F M : Type 0) : Type 0 where
  pub timetable : T
  pub tariff : F
  pub measure : M

-- what a planner was made of
abbrev pub parts_of : {T F M : Type 0} → Planner T F M → Parts T F M
parts_of p = record { timetable = base p.day; tariff = p.tariff; measure = p.measure }

-- what a planner answers from, by what timetables, tariffs and measures mean
abbrev pub basis : {T F M K W : Type 0} → (T → List Hop) → (F → TariffModel K) → (M → MeasureModel W) → Parts T F M → Network → Basis K W
basis hops tariff measure p n = record { tariff = tariff p.tariff; measure = measure p.measure; hops = hops p.timetable; stops = stops_of n; paths = paths_of n }
