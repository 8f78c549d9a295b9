-- What comes of the lines behind those that a board was loaded with: how it opens, and how its log goes on.
-- Assumes nothing.
use Rattle.std.specs.Prelude.{◌≡◌, ℕ, false, true, List, drop, replicate, Option, Some, None, Ok, Err, Result}
use Rattle.std.specs.Global.{Global}
use Rattle.std.specs.Prelude.{Vec}
use Rattle.std.specs.Io.KnownBytes.{Keeps}
use Rattle.timetable.specs.declared.hops.Hop.{Hop}
use Rattle.timetable.specs.declared.refusals.Refusal.{Refusal as TimetableRefusal}
use Rattle.timetable.specs.Line.{open_line}
use Rattle.timetable.specs.Refusals.{cause}
use Rattle.timetable.specs.Table.{open_list}
use Rattle.fares.specs.FareStates.{start_state}
use Rattle.fares.specs.Ladders.{ladder_opened, ladder_model}
use Rattle.fares.specs.Measures.{MeasureModel}
use Rattle.fares.specs.Refusals.{cause as fares_cause}
use Rattle.fares.specs.Surcharges.{surcharge_opened, surcharge_model}
use Rattle.fares.specs.Tariffs.{TariffModel}
use Rattle.measures.specs.Amounts.{count_model}
use Rattle.measures.specs.Heights.{level_model}
use Rattle.measures.specs.Pairs.{pair_model}
use Rattle.measures.specs.ZoneSets.{zones_model}
use Rattle.rule_table.specs.Refusals.{cause as table_cause}
use Rattle.rule_table.specs.RuleTables.{table_opened, table_model}
use Rattle.journeys.specs.declared.label.Passenger.{Passenger}
use Rattle.journeys.specs.declared.leg.Leg.{Leg}
use Rattle.journeys.specs.declared.leg.LegKind.TheVariants.{Walk}
use Rattle.service_day.specs.DayStates.{first_day}
use Rattle.scan.specs.Chains.{blank_label}
use Rattle.planner.specs.Outcome.{Memory}
use Rattle.case_lines.specs.declared.line.Extra.{Extra}
use Rattle.case_lines.specs.declared.line.MeasureName.{MeasureName}
use Rattle.case_lines.specs.declared.line.MeasureName.TheVariants.{Metres, Stops, Zones, Level, All}
use Rattle.case_lines.specs.declared.line.Room.{Room}
use Rattle.records.specs.declared.opening_refusal.OpeningRefusal.{OpeningRefusal}
use Rattle.records.specs.declared.opening_refusal.OpeningRefusal.TheVariants.{Timetable, Table, Fares}
use Rattle.records.specs.Records.{refused}
use Rattle.board_replay.specs.declared.failure.Failure.{Failure}
use Rattle.board_replay.specs.declared.failure.Failure.TheVariants as failures
use Rattle.board_replay.specs.declared.fault.Fault.TheVariants.{NoTariff}
use Rattle.board_replay.specs.declared.loaded.Timing.{Timing}
use Rattle.board_replay.specs.declared.loaded.Timing.TheVariants as timings
use Rattle.board_replay.specs.Loading.{Tariff, table, ladder, Handed}
use Rattle.board_replay.specs.Replays.{misplaced, Came, ends, onto, log_from, skipped, Runs}
use Rattle.board_replay.specs.Streams.{Event, Place}

-- the room that a board has where nothing is said of it
abbrev pub usual_room : Room
usual_room = record { labels = 4096; aboard = 256; bytes = 225; legs = 544 }

abbrev pub room_of : Option Room → Room
room_of None = usual_room
room_of (Some room) = room

-- a blank place for somebody aboard, and for a leg
abbrev pub blank_passenger : {S : Type 0} → S → Passenger S
blank_passenger state = record { state = state; label = 0; first = 0 }

abbrev pub blank_leg : Leg
blank_leg = record { row = 0; kind = Walk; first = 0; last = 0 }

-- so many blank places
abbrev pub blank_memory : {S : Type 0} → Room → S → Memory S
blank_memory room state = record {
  labels = replicate room.labels (blank_label state);
  written = 0;
  aboard = replicate room.aboard (blank_passenger state);
  sheet = replicate room.bytes 0;
  legs = replicate room.legs blank_leg;
}

-- the log of a board with this tariff, this measure and these hops, on a new day
abbrev pub day_from : {K W : Type 0} → TariffModel K → MeasureModel W → List Hop → Handed → List Event → Came
day_from f m hops h events =
    log_from (record { tariff = f; measure = m; hops = hops; stops = h.stops; paths = h.paths }) first_day (blank_memory (room_of h.room) (start_state f m 0 0)) events

-- with the measure of a name
abbrev pub measured_by : {K : Type 0} → MeasureName → TariffModel K → List Hop → Handed → List Event → Came
measured_by Metres f hops h events = day_from f (count_model false) hops h events
measured_by Stops f hops h events = day_from f (count_model true) hops h events
measured_by Zones f hops h events = day_from f zones_model hops h events
measured_by Level f hops h events = day_from f level_model hops h events
measured_by All f hops h events = day_from f (pair_model (pair_model (count_model false) (count_model true)) (pair_model zones_model level_model)) hops h events

-- all of them where none is named
abbrev pub measure_of : Option MeasureName → MeasureName
measure_of None = All
measure_of (Some measure) = measure

-- how a board opens: what comes of the lines behind, or the number and the values of a refusal
abbrev pub Opened : Type 0
Opened = Result (List Event → Came) (ℕ × List ℕ)

-- what is opened next of what was opened, or the refusal
abbrev pub then : {X : Type 0} → Result X (ℕ × List ℕ) → (X → Opened) → Opened
then (Ok x) next = next x
then (Err refusal) next = Err refusal

-- with the surcharge, if there is one
abbrev pub surcharged_by : {K : Type 0} → Option Extra → TariffModel K → List Hop → Handed → Opened
surcharged_by None f hops h = Ok (measured_by (measure_of h.measure) f hops h)
surcharged_by (Some extra) f hops h =
    then (surcharge_opened f extra.event extra.amount) (λ s. Ok (measured_by (measure_of h.measure) (surcharge_model extra.event extra.amount f) hops h))

-- with the table or the ladder
abbrev pub based_on : Option Tariff → List Hop → Handed → Opened
based_on None hops h = Ok (λ events. ends (misplaced NoTariff (drop 1 events)))
based_on (Some (table starts prices)) hops h =
    then (table_opened prices h.rules starts) (λ t. surcharged_by h.surcharge (table_model prices h.rules starts) hops h)
based_on (Some (ladder first step)) hops h =
    then (ladder_opened first step) (λ t. surcharged_by h.surcharge (ladder_model first step) hops h)

-- the number and the values of a timetable's refusal
abbrev pub timetable_or_cause : Result (List Hop) TimetableRefusal → Result (List Hop) (ℕ × List ℕ)
timetable_or_cause (Ok hops) = Ok hops
timetable_or_cause (Err refusal) = Err ((cause refusal).number, (cause refusal).values)

-- the hops of a list or of an interval line
abbrev pub hops_by : Option Timing → List Hop → Result (List Hop) (ℕ × List ℕ)
hops_by (Some (timings.IntervalLine interval trips)) hops = timetable_or_cause (open_line hops interval trips)
hops_by (Some timings.HopList) hops = timetable_or_cause (open_list hops)
hops_by None hops = timetable_or_cause (open_list hops)

-- whether there is a tariff at all comes first, then the timetable, then the tariff
abbrev pub opened_by : Option Tariff → Handed → Opened
opened_by None h = Ok (λ events. ends (misplaced NoTariff (drop 1 events)))
opened_by (Some tariff) h = then (hops_by h.timing h.hops) (λ hops. based_on (Some tariff) hops h)

abbrev pub opened : Handed → Opened
opened h = opened_by h.tariff h

-- the number and the values of a refusal to open
abbrev pub opening_cause : OpeningRefusal → ℕ × List ℕ
opening_cause (Timetable refusal) = ((cause refusal).number, (cause refusal).values)
opening_cause (Table refusal) = table_cause refusal
opening_cause (Fares refusal) = fares_cause refusal

-- a call refused to open a board
abbrev pub Refuses : ℕ × List ℕ → Result (Option (Vec ℕ Global)) Failure → Type 0
Refuses c (Ok next) = ⊥
Refuses c (Err (failures.Opening refusal)) = opening_cause refusal ≡ c
Refuses c (Err failures.Memory) = ⊥
Refuses c (Err (failures.Input error)) = ⊥
Refuses c (Err (failures.Unreadable fault)) = ⊥
Refuses c (Err (failures.Misplaced fault)) = ⊥
Refuses c (Err failures.Endless) = ⊥

-- a call opened a board, and what it answered, left and wrote is what came; or it refused, and read and wrote nothing
abbrev pub Opens : Opened → Place → Result (Option (Vec ℕ Global)) Failure → Place → Option (List ℕ) → Option (List ℕ) → Type 0
Opens (Ok came) before r after old new = Runs came before r after old new
Opens (Err c) before r after old new = Refuses c r × (after ≡ before) × Keeps old new

-- what comes of the lines behind: a board that does not open is recorded as refused, and its log is passed over
abbrev pub opened_or_skipped : Opened → List Event → Came
opened_or_skipped (Ok came) events = came events
opened_or_skipped (Err c) events = onto (refused c.0 c.1) (skipped events)

abbrev pub board_from : Handed → List Event → Came
board_from h events = opened_or_skipped (opened h) events
