-- The ferry's network: its hops, its stops, its tariff, and memory in which nothing is written yet.
-- Assumes nothing.
use Rattle.std.specs.Prelude.{ℕ, true, false, List, [], ◌∷◌, replicate}
use Rattle.timetable.specs.declared.hops.Hop.{Hop}
use Rattle.fares.specs.declared.fare_state.FareState.{FareState}
use Rattle.fares.specs.declared.tickets.Marked.{Marked}
use Rattle.fares.specs.Surcharges.{surcharge_model}
use Rattle.fares.specs.Tariffs.{TariffModel}
use Rattle.measures.specs.declared.weights.ZoneSet.{ZoneSet}
use Rattle.measures.specs.Shown.{readings}
use Rattle.measures.specs.ZoneSets.{zones_model}
use Rattle.rule_table.specs.declared.rule.Rule.{Rule}
use Rattle.rule_table.specs.RuleTables.{table_model}
use Rattle.journeys.specs.declared.label.Passenger.{Passenger}
use Rattle.journeys.specs.declared.leg.Leg.{Leg}
use Rattle.journeys.specs.declared.leg.LegKind.TheVariants.{Walk}
use Rattle.journeys.specs.declared.network.Stop.{Stop}
use Rattle.journeys.specs.declared.question.Question.{Question}
use Rattle.scan.specs.declared.stored_label.StoredLabel.{StoredLabel}
use Rattle.scan.specs.Chains.{blank_label}
use Rattle.sheet.specs.Format.{sheet_bytes}
use Rattle.planner.specs.Limits.{most_legs}
use Rattle.planner.specs.Outcome.{Memory}

-- a running hop of no length: its trip, its stops, its times and its event
abbrev pub hop : ℕ → ℕ → ℕ → ℕ → ℕ → ℕ → Hop
hop trip from to departure arrival event =
    record { trip = trip; from = from; to = to; departure = departure; arrival = arrival; metres = 0; level = 0; event = event; runs = true }

-- the event of a crossing by ferry
abbrev pub ferry : ℕ
ferry = 2

-- the event of any other hop
abbrev pub nothing : ℕ
nothing = 0

-- twice from harbour to harbour: by ferry, or the cheaper way, which takes longer or leads inland
abbrev pub ferry_hops : List Hop
ferry_hops =
    hop 0 0 1 600 900 ferry
    ∷ hop 1 0 2 600 700 nothing
    ∷ hop 1 2 1 700 900 nothing
    ∷ hop 2 1 3 1200 1500 ferry
    ∷ hop 3 1 3 1200 1800 nothing
    ∷ []

-- a stop in zone 1
abbrev pub harbour : Stop
harbour = record { zone = 1; class = 0 }

-- a stop in zone 2
abbrev pub inland : Stop
inland = record { zone = 2; class = 0 }

-- stop 2 is the only one inland
abbrev pub ferry_stops : List Stop
ferry_stops = harbour ∷ harbour ∷ inland ∷ harbour ∷ []

-- from stop 0 at 600, to a stop, with so many rides at most
abbrev pub to : ℕ → ℕ → Question
to destination rides = record { origin = 0; destination = destination; departure = 600; rides = rides }

-- from the first harbour to the last, with the two rides that it takes
abbrev pub ferry_question : Question
ferry_question = to 3 2

-- from ticket to ticket at every event, once so many zones are touched
abbrev pub rule : ℕ → ℕ → ℕ → Rule
rule ticket target zones = record { ticket = ticket; target = target; events = 65535; minima = readings 0 0 zones 0 }

-- a ticket for each number of zones
abbrev pub ferry_rules : List Rule
ferry_rules = rule 0 1 2 ∷ rule 0 2 3 ∷ rule 1 2 3 ∷ []

-- what the three tickets cost
abbrev pub ferry_prices : List ℕ
ferry_prices = 200 ∷ 300 ∷ 450 ∷ []

-- every fare starts with ticket 0
abbrev pub ferry_starts : List ℕ
ferry_starts = 0 ∷ 0 ∷ 0 ∷ 0 ∷ []

-- the table, under a surcharge of 150 for the ferry
unfoldable pub ferry_tariff : TariffModel (Marked ℕ)
ferry_tariff = surcharge_model ferry 150 (table_model ferry_prices ferry_rules ferry_starts)

-- where a fare of the ferry's tariff stands
abbrev pub FerryState : Type 0
FerryState = FareState (Marked ℕ) ZoneSet

-- the fare in a blank place
abbrev pub no_fare : FerryState
no_fare = record { ticket = record { below = 0; marked = false }; weight = zones_model.neutral }

-- a blank place of the label store
abbrev pub no_label : StoredLabel FerryState
no_label = blank_label no_fare

-- a blank place of the list of those aboard
abbrev pub no_passenger : Passenger FerryState
no_passenger = record { state = no_fare; label = 0; first = 0 }

-- a blank place of the legs
abbrev pub no_leg : Leg
no_leg = record { row = 0; kind = Walk; first = 0; last = 0 }

-- so many places for labels and so many for those aboard, and just room for the longest sheet and the most legs
abbrev pub blank_memory : ℕ → ℕ → Memory FerryState
blank_memory labels aboard = record {
  labels = replicate labels no_label;
  written = 0;
  aboard = replicate aboard no_passenger;
  sheet = replicate sheet_bytes 0;
  legs = replicate most_legs no_leg;
}
