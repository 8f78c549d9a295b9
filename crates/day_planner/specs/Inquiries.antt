-- What an inquiry is about: what its board answers from, and the log before the question.
-- Assumes nothing.
use Rattle.std.specs.Prelude.{List}
use Rattle.timetable.specs.declared.hops.Hop.{Hop}
use Rattle.fares.specs.Measures.{MeasureModel}
use Rattle.fares.specs.Tariffs.{TariffModel}
use Rattle.day_planner.specs.declared.entry.Entry.{Entry}
use Rattle.day_planner.specs.declared.inquiry.Inquiry.{Inquiry}
use Rattle.day_planner.specs.Log.{Basis}
use Rattle.day_planner.specs.Planners.{Parts, basis}

-- the timetable, the tariff and the measure
abbrev pub parts_in : {T F M : Type 0} → Inquiry T F M → Parts T F M
parts_in i = record { timetable = i.timetable; tariff = i.tariff; measure = i.measure }

-- what the board answers from, by what timetables, tariffs and measures mean
abbrev pub basis_of : {T F M K W : Type 0} → (T → List Hop) → (F → TariffModel K) → (M → MeasureModel W) → Inquiry T F M → Basis K W
basis_of hops tariff measure i = basis hops tariff measure (parts_in i) i.network

-- the log before the question
abbrev pub log_of : {T F M : Type 0} → Inquiry T F M → List Entry
log_of i = i.log.now
