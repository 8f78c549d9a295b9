-- How the replay of a file ends, for one who sees what it has written, what it has told, and its status.
-- Assumes nothing.
use Rattle.std.specs.Prelude.{◌≡◌, ℕ, List, [], Option, None, Ok, Err, Result}
use Rattle.std.specs.Process.{exit_status}
use Rattle.std.specs.declared.process.ExitCode.{ExitCode}
use Rattle.std.specs.Io.KnownBytes.{Appends, Keeps}
use Rattle.board_replay.specs.declared.failure.Failure.{Failure}
use Rattle.board_replay.specs.declared.failure.Failure.TheVariants as failures
use Rattle.board_replay.specs.Files.{Replayed}
use Rattle.board_replay.specs.Streams.{Place, EndlessAt}
use Rattle.board_replay.specs.Told.{IsTold}
use Rattle.board_replay.specs.Writes.{AppendsFront}

-- before the first line
abbrev pub at_first : Option (List ℕ) → Place
at_first text = record { number = 0; kept = None; unread = text }

-- the line of a failure was told
abbrev pub Tells : Failure → ℕ → Option (List ℕ) → Option (List ℕ) → Type 0
Tells failure number old new = (line : List ℕ) × IsTold failure number line × Appends old new line

-- or a front part of it
abbrev pub TellsFront : Failure → ℕ → Option (List ℕ) → Option (List ℕ) → Type 0
TellsFront failure number old new = (line : List ℕ) × IsTold failure number line × AppendsFront old new line

-- the status is 0 and nothing is told where a replay ended well, else it is 1 and the failure is told, unless that cannot be told whole
abbrev pub Reports : {E : Type 0} → Result (Unit {0}) Failure → ℕ → Result ExitCode E → Option (List ℕ) → Option (List ℕ) → Type 0
Reports (Ok x) number (Ok code) old new = (exit_status code ≡ 0) × Keeps old new
Reports (Ok x) number (Err error) old new = ⊥
Reports (Err failure) number (Ok code) old new = (exit_status code ≡ 1) × Tells failure number old new
Reports (Err failure) number (Err error) old new = TellsFront failure number old new

-- all that was written went on to the writer behind the buffer, unless reading or writing failed
abbrev pub GoesThrough : Result (Unit {0}) Failure → List ℕ → Type 0
GoesThrough (Ok x) buffer = buffer ≡ []
GoesThrough (Err (failures.Unreadable fault)) buffer = buffer ≡ []
GoesThrough (Err (failures.Misplaced fault)) buffer = buffer ≡ []
GoesThrough (Err failures.Memory) buffer = buffer ≡ []
GoesThrough (Err failures.Endless) buffer = buffer ≡ []
GoesThrough (Err (failures.Opening refusal)) buffer = buffer ≡ []
GoesThrough (Err (failures.Input error)) buffer = Unit {0}

-- A file of this text was replayed and its ending reported: the record is written as far as the replay came, and what is told
-- and the status say how it ended.
pub record Ended {E : Type 0} (text : Option (List ℕ)) (r : Result ExitCode E) (out out' : Option (List ℕ)) (buffer : List ℕ) (err err' : Option (List ℕ)) : Type 0 where
  pub ended : Result (Unit {0}) Failure
  pub after : Place
  pub replayed : Replayed (at_first text) ended after out out'
  pub endless : EndlessAt ended after
  pub through : GoesThrough ended buffer
  pub reported : Reports ended after.number r err err'
