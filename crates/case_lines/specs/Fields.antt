-- What the fields of a line say: each reads from the front of the words, and leaves the words after it.
-- Assumes nothing.
use Rattle.std.specs.Prelude.{ℕ, cond, List, [], ◌∷◌, Ok, Err, Result, ◌==◌, codes}
use Rattle.std.specs.Str.{bytes_eq}
use Rattle.timetable.specs.declared.hops.Hop.{Hop}
use Rattle.fares.specs.declared.gauges.Gauges.{Gauges}
use Rattle.measures.specs.Shown.{readings}
use Rattle.rule_table.specs.declared.rule.Rule.{Rule}
use Rattle.journeys.specs.declared.network.Footpath.{Footpath}
use Rattle.journeys.specs.declared.network.Stop.{Stop}
use Rattle.journeys.specs.declared.question.Question.{Question}
use Rattle.case_lines.specs.declared.fault.Fault.{Fault}
use Rattle.case_lines.specs.declared.fault.Fault.TheVariants.{MissingWord, UnknownWord}
use Rattle.case_lines.specs.declared.line.MeasureName.{MeasureName}
use Rattle.case_lines.specs.declared.line.MeasureName.TheVariants.{Metres, Stops, Zones, Level, All}
use Rattle.case_lines.specs.declared.line.Room.{Room}
use Rattle.case_lines.specs.Outcomes.{◌>>=◌}
use Rattle.case_lines.specs.Words.{number_of, largest_number}

-- a word, and the words after it
abbrev pub word_at : List (List ℕ) → Result (List ℕ × List (List ℕ)) Fault
word_at [] = Err MissingWord
word_at (word ∷ words) = Ok (word, words)

-- a number up to the largest of its field, and the words after it
unfoldable pub field_at : ℕ → List (List ℕ) → Result (ℕ × List (List ℕ)) Fault
field_at largest words = do
  word ← word_at words
  number ← number_of largest word.0
  Ok (number, word.1)

-- a hop: its trip, its stops, its times, its metres, its level, its event, and whether it runs
unfoldable pub hop_at : List (List ℕ) → Result (Hop × List (List ℕ)) Fault
hop_at words = do
  trip ← field_at largest_number words
  from ← field_at largest_number trip.1
  to ← field_at largest_number from.1
  departure ← field_at largest_number to.1
  arrival ← field_at largest_number departure.1
  metres ← field_at largest_number arrival.1
  level ← field_at 255 metres.1
  event ← field_at 255 level.1
  runs ← field_at 1 event.1
  Ok (
    record {
      trip = trip.0;
      from = from.0;
      to = to.0;
      departure = departure.0;
      arrival = arrival.0;
      metres = metres.0;
      level = level.0;
      event = event.0;
      runs = runs.0 == 1;
    },
    runs.1,
  )

-- a stop: its zone and its class
unfoldable pub stop_at : List (List ℕ) → Result (Stop × List (List ℕ)) Fault
stop_at words = do
  zone ← field_at 255 words
  class ← field_at 255 zone.1
  Ok (record { zone = zone.0; class = class.0 }, class.1)

-- a footpath: from where to where, and its seconds
unfoldable pub path_at : List (List ℕ) → Result (Footpath × List (List ℕ)) Fault
path_at words = do
  from ← field_at largest_number words
  to ← field_at largest_number from.1
  seconds ← field_at largest_number to.1
  Ok (record { from = from.0; to = to.0; seconds = seconds.0 }, seconds.1)

-- the minima of the four gauges
unfoldable pub minima_at : List (List ℕ) → Result (Gauges × List (List ℕ)) Fault
minima_at words = do
  metres ← field_at largest_number words
  stops ← field_at largest_number metres.1
  zones ← field_at largest_number stops.1
  level ← field_at largest_number zones.1
  Ok (readings metres.0 stops.0 zones.0 level.0, level.1)

-- a rule: its ticket, its target, its events as the bits of a number, and its minima
unfoldable pub rule_at : List (List ℕ) → Result (Rule × List (List ℕ)) Fault
rule_at words = do
  ticket ← field_at 255 words
  target ← field_at 255 ticket.1
  events ← field_at 65535 target.1
  minima ← minima_at events.1
  Ok (record { ticket = ticket.0; target = target.0; events = events.0; minima = minima.0 }, minima.1)

-- how many places there are for labels, for those aboard, for bytes and for legs
unfoldable pub room_at : List (List ℕ) → Result (Room × List (List ℕ)) Fault
room_at words = do
  labels ← field_at largest_number words
  aboard ← field_at largest_number labels.1
  bytes ← field_at largest_number aboard.1
  legs ← field_at largest_number bytes.1
  Ok (record { labels = labels.0; aboard = aboard.0; bytes = bytes.0; legs = legs.0 }, legs.1)

-- a question: its origin, its destination, its departure and its ride limit
unfoldable pub question_at : List (List ℕ) → Result (Question × List (List ℕ)) Fault
question_at words = do
  origin ← field_at largest_number words
  destination ← field_at largest_number origin.1
  departure ← field_at largest_number destination.1
  rides ← field_at largest_number departure.1
  Ok (record { origin = origin.0; destination = destination.0; departure = departure.0; rides = rides.0 }, rides.1)

-- two numbers
unfoldable pub pair_at : List (List ℕ) → Result (ℕ × ℕ × List (List ℕ)) Fault
pair_at words = do
  first ← field_at largest_number words
  second ← field_at largest_number first.1
  Ok (first.0, second.0, second.1)

-- the measure of a name
abbrev pub measure_named : List ℕ → Result MeasureName Fault
measure_named name =
    cond (bytes_eq name (codes "metres")) (Ok Metres)
    (cond (bytes_eq name (codes "stops")) (Ok Stops)
    (cond (bytes_eq name (codes "zones")) (Ok Zones)
    (cond (bytes_eq name (codes "level")) (Ok Level)
    (cond (bytes_eq name (codes "all")) (Ok All)
    (Err UnknownWord)))))

-- a measure by its name
unfoldable pub measure_at : List (List ℕ) → Result (MeasureName × List (List ℕ)) Fault
measure_at words = do
  name ← word_at words
  measure ← measure_named name.0
  Ok (measure, name.1)
