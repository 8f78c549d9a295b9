-- How the lines of a board's log go on: what is recorded of them, and how that ends.
-- Assumes nothing.
use Rattle.std.specs.Prelude.{◌≡◌, ℕ, List, [], ◌∷◌, ◌++◌, Option, Some, None, IfSome, Ok, Err, Result, Vec}
use Rattle.std.specs.Global.{Global}
use Rattle.std.specs.Io.KnownBytes.{Appends}
use Rattle.timetable.specs.Table.{trips_of}
use Rattle.fares.specs.declared.fare_state.FareState.{FareState}
use Rattle.service_day.specs.DayStates.{DayState}
use Rattle.planner.specs.Outcome.{Memory}
use Rattle.day_planner.specs.declared.entry.Entry.TheVariants.{Ask}
use Rattle.day_planner.specs.Log.{Basis, after, memory_left}
use Rattle.case_lines.specs.declared.fault.Fault.{Fault as LineFault}
use Rattle.case_lines.specs.Reading.{Said, nothing, begins, loads_with, prices, enters, claims}
use Rattle.board_replay.specs.declared.failure.Failure.{Failure}
use Rattle.board_replay.specs.declared.failure.Failure.TheVariants as failures
use Rattle.board_replay.specs.declared.fault.Fault.{Fault}
use Rattle.board_replay.specs.declared.fault.Fault.TheVariants.{Late}
use Rattle.board_replay.specs.LogRecords.{entry_record, asked_record}
use Rattle.board_replay.specs.Writes.{AppendsFront}
use Rattle.board_replay.specs.Streams.{Event, Place, left_at, count_at, StandsBefore}

-- how the lines of a board end
pub data End : Type 0 where
  -- with the file
  finished : End
  -- where the next board begins, with its name; these lines are left
  next_case : List ℕ → List Event → End
  -- at a line that cannot be read; these are left behind it
  unreadable : LineFault → List Event → End
  -- at a line that cannot stand where it does; these are left behind it
  misplaced : Fault → List Event → End

-- what is recorded of lines, and how they end
pub record Came : Type 0 where
  pub written : List ℕ
  pub end : End

-- nothing is recorded
abbrev pub ends : End → Came
ends e = record { written = []; end = e }

-- this is recorded before
abbrev pub onto : List ℕ → Came → Came
onto text came = record { written = text ++ came.written; end = came.end }

-- what a line is to one that reads a log
pub data Turn : Type 0 where
  goes_on : Turn
  -- the next board begins, with this name
  next_board : List ℕ → Turn
  wrong : Fault → Turn

-- what was handed in cannot stand in a log
abbrev pub turn_of : Said → Turn
turn_of nothing = goes_on
turn_of (begins name) = next_board name
turn_of (loads_with load) = wrong Late
turn_of (prices starts tickets) = wrong Late
turn_of (enters e) = goes_on
turn_of (claims q sheet) = goes_on

-- the same, as a call answers it
abbrev pub Turns : Turn → Result (Option (Vec ℕ Global)) Fault → Type 0
Turns goes_on r = r ≡ Ok None
Turns (next_board name) r = (held : Vec ℕ Global) × (r ≡ Ok (Some held)) × (held.items ≡ name)
Turns (wrong fault) r = r ≡ Err fault

-- what comes of a log at a line, where this comes of it if it goes on
abbrev pub turned : Turn → List Event → Came → Came
turned goes_on events came = came
turned (next_board name) events came = ends (next_case name events)
turned (wrong fault) events came = ends (misplaced fault events)

-- what is recorded of a line of a log, on a day and with a memory
abbrev pub said_record : {K W : Type 0} → Basis K W → DayState → Memory (FareState K W) → Said → List ℕ
said_record b d m (enters e) = entry_record b d m e
said_record b d m (claims q sheet) = asked_record b d m q sheet
said_record b d m nothing = []
said_record b d m (begins name) = []
said_record b d m (loads_with load) = []
said_record b d m (prices starts tickets) = []

-- the day after a line of a log
abbrev pub day_after_line : {K W : Type 0} → Basis K W → DayState → Said → DayState
day_after_line b d (enters e) = after (trips_of b.hops) d e
day_after_line b d (claims q sheet) = d
day_after_line b d nothing = d
day_after_line b d (begins name) = d
day_after_line b d (loads_with load) = d
day_after_line b d (prices starts tickets) = d

-- the memory after a line of a log
abbrev pub memory_after_line : {K W : Type 0} → Basis K W → DayState → Memory (FareState K W) → Said → Memory (FareState K W)
memory_after_line b d m (enters e) = memory_left b d m e
memory_after_line b d m (claims q sheet) = memory_left b d m (Ask q)
memory_after_line b d m nothing = m
memory_after_line b d m (begins name) = m
memory_after_line b d m (loads_with load) = m
memory_after_line b d m (prices starts tickets) = m

-- the log of a board that was opened, from a day and a memory on
unfoldable pub log_from : {K W : Type 0} → Basis K W → DayState → Memory (FareState K W) → List Event → Came
log_from b d m [] = ends finished
log_from b d m (Err fault ∷ events) = ends (unreadable fault events)
log_from b d m (Ok said ∷ events) = turned (turn_of said) events (onto (said_record b d m said) (log_from b (day_after_line b d said) (memory_after_line b d m said) events))

-- the log of a board that was not opened
unfoldable pub skipped : List Event → Came
skipped [] = ends finished
skipped (Err fault ∷ events) = ends (unreadable fault events)
skipped (Ok said ∷ events) = turned (turn_of said) events (skipped events)

-- a line of a log was entered: what it is, as a call answers it that may want memory
abbrev pub Enters : Turn → Result (Option (Vec ℕ Global)) Failure → Type 0
Enters turn (Ok next) = Turns turn (Ok next)
Enters turn (Err (failures.Misplaced fault)) = turn ≡ wrong fault
Enters turn (Err failures.Memory) = Unit {0}
Enters turn (Err (failures.Input error)) = ⊥
Enters turn (Err (failures.Unreadable fault)) = ⊥
Enters turn (Err failures.Endless) = ⊥
Enters turn (Err (failures.Opening refusal)) = ⊥

-- A call answered, left of a file of so many lines and wrote what came of them. Where memory, reading or writing failed, or
-- the lines are endless, it wrote a front part of what comes of all of them.
abbrev pub Comes : Came → ℕ → Result (Option (Vec ℕ Global)) Failure → Place → Option (List ℕ) → Option (List ℕ) → Type 0
Comes c count (Ok None) after old new = (c.end ≡ finished) × Appends old new c.written
Comes c count (Ok (Some name)) after old new =
    (rest : List Event) × (c.end ≡ next_case name.items rest) × (left_at after ≡ Some rest) × (count_at after ≡ count) × Appends old new c.written
Comes c count (Err (failures.Unreadable fault)) after old new = (rest : List Event) × (c.end ≡ unreadable fault rest) × StandsBefore after rest count × Appends old new c.written
Comes c count (Err (failures.Misplaced fault)) after old new = (rest : List Event) × (c.end ≡ misplaced fault rest) × StandsBefore after rest count × Appends old new c.written
Comes c count (Err failures.Memory) after old new = AppendsFront old new c.written
Comes c count (Err (failures.Input error)) after old new = AppendsFront old new c.written
Comes c count (Err failures.Endless) after old new = AppendsFront old new c.written
Comes c count (Err (failures.Opening refusal)) after old new = ⊥

-- a call went on from one place of a file to another, where the text is known
abbrev pub Runs : (List Event → Came) → Place → Result (Option (Vec ℕ Global)) Failure → Place → Option (List ℕ) → Option (List ℕ) → Type 0
Runs came before r after old new = IfSome (left_at before) (λ events. Comes (came events) (count_at before) r after old new)
