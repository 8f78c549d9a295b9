-- What comes of a whole case file, board by board.
-- Assumes nothing.
use Rattle.std.specs.Prelude.{◌≡◌, ℕ, Bool, true, false, cond, ◌||◌, List, [], ◌∷◌, drop, ◌++◌, flat_map, Option, Some, None, IfSome, Ok, Err, Result}
use Rattle.std.specs.Io.KnownBytes.{Appends}
use Rattle.case_lines.specs.Reading.{Said, seen, nothing, begins, loads_with, prices, enters, claims}
use Rattle.records.specs.Records.{case_record}
use Rattle.board_replay.specs.declared.failure.Failure.{Failure}
use Rattle.board_replay.specs.declared.failure.Failure.TheVariants as failures
use Rattle.board_replay.specs.declared.fault.Fault.{Fault}
use Rattle.board_replay.specs.declared.replaying.Taken.{Taken}
use Rattle.board_replay.specs.declared.replaying.Taken.TheVariants as takens
use Rattle.board_replay.specs.Boards.{board_from}
use Rattle.board_replay.specs.Loading.{table, Handed, nothing_handed, taken, table_taken}
use Rattle.board_replay.specs.Replays.{End, finished, next_case, unreadable, misplaced, Came, ends, onto, skipped}
use Rattle.board_replay.specs.Writes.{AppendsFront}
use Rattle.board_replay.specs.Streams.{Event, Place, left_at, count_at, StandsBefore}

-- what the lines that a board was loaded with come to
pub data Load : Type 0 where
  -- this was handed in, some line was of the board or none was, and these lines are left
  stops_at : Handed → Bool → List Event → Load
  fails : End → Load

-- the next line, unless this one cannot stand there
abbrev pub loaded_on : Result Handed Fault → List Event → (Handed → Load) → Load
loaded_on (Ok h) events next = next h
loaded_on (Err fault) events next = fails (misplaced fault events)

-- from what was handed in so far on
unfoldable pub loaded_from : Handed → Bool → List Event → Load
loaded_from h begun [] = stops_at h begun []
loaded_from h begun (Err fault ∷ events) = fails (unreadable fault events)
loaded_from h begun (Ok nothing ∷ events) = loaded_from h begun events
loaded_from h begun (Ok (loads_with load) ∷ events) = loaded_on (taken h load) events (λ new. loaded_from new true events)
loaded_from h begun (Ok (prices starts tickets) ∷ events) = loaded_on (table_taken h (table starts tickets)) events (λ new. loaded_from new true events)
loaded_from h begun (Ok (begins name) ∷ events) = stops_at h (begun || false) (Ok (begins name) ∷ events)
loaded_from h begun (Ok (enters e) ∷ events) = stops_at h (begun || true) (Ok (enters e) ∷ events)
loaded_from h begun (Ok (claims q sheet) ∷ events) = stops_at h (begun || true) (Ok (claims q sheet) ∷ events)

-- a line is of a log
abbrev pub is_logged : Said → Bool
is_logged nothing = false
is_logged (begins name) = false
is_logged (loads_with load) = false
is_logged (prices starts tickets) = false
is_logged (enters e) = true
is_logged (claims q sheet) = true

-- a line was taken while a board is loaded: how the loading goes on then, whatever lines follow
abbrev pub TakesLine : Said → Handed → Result Taken Failure → Handed → Type 0
TakesLine said old (Ok takens.Nothing) new = (begun : Bool) (events : List Event) → loaded_from old begun (Ok said ∷ events) ≡ loaded_from new begun events
TakesLine said old (Ok takens.Loaded) new = (begun : Bool) (events : List Event) → loaded_from old begun (Ok said ∷ events) ≡ loaded_from new true events
TakesLine said old (Ok (takens.Back line)) new =
    (seen line ≡ said) × (new ≡ old) × ((begun : Bool) (events : List Event) → loaded_from old begun (Ok said ∷ events) ≡ stops_at old (begun || is_logged said) (Ok said ∷ events))
TakesLine said old (Err (failures.Misplaced fault)) new = (begun : Bool) (events : List Event) → loaded_from old begun (Ok said ∷ events) ≡ fails (misplaced fault events)
TakesLine said old (Err failures.Memory) new = Unit {0}
TakesLine said old (Err (failures.Unreadable fault)) new = ⊥
TakesLine said old (Err (failures.Input error)) new = ⊥
TakesLine said old (Err failures.Endless) new = ⊥
TakesLine said old (Err (failures.Opening refusal)) new = ⊥

-- what comes of a board; one without a name is a board only if some line is of it
abbrev pub come_of : Bool → Load → Came
come_of named (fails e) = ends e
come_of named (stops_at h begun events) = cond (named || begun) (board_from h events) (skipped events)

abbrev pub first_board : Bool → List Event → Came
first_board named events = come_of named (loaded_from nothing_handed false events)

-- the name of the board that a line begins, if it begins one
abbrev pub begun_by : Said → Option (List ℕ)
begun_by (begins name) = Some name
begun_by nothing = None
begun_by (loads_with load) = None
begun_by (prices starts tickets) = None
begun_by (enters e) = None
begun_by (claims q sheet) = None

-- a board of a file: its name, and all lines behind its `case` line, those of later boards too
pub record Board : Type 0 where
  pub name : List ℕ
  pub onward : List Event

-- the lines of a board's own: those before the next `case` line
abbrev pub own_on : Option (List ℕ) → Said → List Event → List Event
own_on (Some name) said own = []
own_on None said own = Ok said ∷ own

unfoldable pub own_lines : List Event → List Event
own_lines [] = []
own_lines (Err fault ∷ events) = Err fault ∷ own_lines events
own_lines (Ok said ∷ events) = own_on (begun_by said) said (own_lines events)

-- the boards that `case` lines begin, in their order
abbrev pub boards_on : Option (List ℕ) → List Event → List Board → List Board
boards_on (Some name) events boards = record { name = name; onward = events } ∷ boards
boards_on None events boards = boards

unfoldable pub boards_in : List Event → List Board
boards_in [] = []
boards_in (Err fault ∷ events) = boards_in events
boards_in (Ok said ∷ events) = boards_on (begun_by said) events (boards_in events)

-- the record of a board of a file: its `case` line, and what is recorded of the lines of its own
abbrev pub board_record : Board → List ℕ
board_record b = case_record b.name ++ (first_board true (own_lines b.onward)).written

-- The record of a file whose lines can all be read and stand where they do: the records of its boards, joined. Lines before
-- the first `case` line are of a board that has no such line.
abbrev pub file_record : List Event → List ℕ
file_record events = (first_board false (own_lines events)).written ++ flat_map board_record (boards_in events)

-- what comes of a board, and then of the next one, of this name, unless a line ended the file
abbrev pub ended_by : End → Came → List ℕ → Came → Came
ended_by (next_case n rest) came name next = onto (came.written ++ case_record name) next
ended_by finished came name next = came
ended_by (unreadable fault rest) came name next = came
ended_by (misplaced fault rest) came name next = came

-- what comes of a file: of its boards one by one, up to a line that cannot be read or cannot stand where it does
unfoldable pub came_from : Bool → List Event → List Board → Came
came_from named events [] = first_board named events
came_from named events (b ∷ boards) = ended_by (first_board named events).end (first_board named events) b.name (came_from true b.onward boards)

abbrev pub came_of_file : List Event → Came
came_of_file events = came_from false events (boards_in events)

-- Lines were loaded, as a call answers and leaves it: the line that was read last is the next one again, if there is one. Of
-- memory, reading and lines without end nothing is said.
abbrev pub Loads : Load → ℕ → Result Bool Failure → Handed → Place → Type 0
Loads l count (Ok begun) h after =
    (events : List Event) × (l ≡ stops_at h begun events) × (left_at after ≡ Some events) × (count_at after ≡ count) × StandsBefore after (drop 1 events) count
Loads l count (Err (failures.Unreadable fault)) h after = (rest : List Event) × (l ≡ fails (unreadable fault rest)) × StandsBefore after rest count
Loads l count (Err (failures.Misplaced fault)) h after = (rest : List Event) × (l ≡ fails (misplaced fault rest)) × StandsBefore after rest count
Loads l count (Err failures.Memory) h after = Unit {0}
Loads l count (Err (failures.Input error)) h after = Unit {0}
Loads l count (Err failures.Endless) h after = Unit {0}
Loads l count (Err (failures.Opening refusal)) h after = ⊥

-- from one place of a file to another, where the text is known
abbrev pub LoadsOn : Handed → Place → Result Bool Failure → Handed → Place → Type 0
LoadsOn h before r new after = IfSome (left_at before) (λ events. Loads (loaded_from h false events) (count_at before) r new after)

-- what is written of a file of so many lines that ends before these lines, behind the line that was read last
pub record StopsBefore (events : List Event) (count : ℕ) (end : List Event → End) (after : Place) (old new : Option (List ℕ)) : Type 0 where
  pub rest : List Event
  pub ends_so : (came_of_file events).end ≡ end rest
  pub numbered : StandsBefore after rest count
  pub written : Appends old new (came_of_file events).written

-- A file was replayed, as a call answers and writes it. If it ends well, its record is written. If it ends at a line, what is
-- recorded before that line is, and the line is the one that was read last. Where memory, reading or writing failed, or
-- the lines are endless, a front part is written of what is recorded of all of them.
abbrev pub Replays : List Event → ℕ → Result (Unit {0}) Failure → Place → Option (List ℕ) → Option (List ℕ) → Type 0
Replays events count (Ok x) after old new = ((came_of_file events).end ≡ finished) × Appends old new (file_record events)
Replays events count (Err (failures.Unreadable fault)) after old new = StopsBefore events count (unreadable fault) after old new
Replays events count (Err (failures.Misplaced fault)) after old new = StopsBefore events count (misplaced fault) after old new
Replays events count (Err failures.Memory) after old new = AppendsFront old new (came_of_file events).written
Replays events count (Err (failures.Input error)) after old new = AppendsFront old new (came_of_file events).written
Replays events count (Err failures.Endless) after old new = AppendsFront old new (came_of_file events).written
Replays events count (Err (failures.Opening refusal)) after old new = ⊥

abbrev pub Replayed : Place → Result (Unit {0}) Failure → Place → Option (List ℕ) → Option (List ℕ) → Type 0
Replayed before r after old new = IfSome (left_at before) (λ events. Replays events (count_at before) r after old new)
