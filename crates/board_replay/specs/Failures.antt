-- Why a replay ended, where a line was not read.
-- Assumes nothing.
use Rattle.case_lines.specs.declared.fault.ReadError.{ReadError}
use Rattle.case_lines.specs.declared.fault.ReadError.TheVariants as errors
use Rattle.board_replay.specs.declared.failure.Failure.{Failure}
use Rattle.board_replay.specs.declared.failure.Failure.TheVariants as failures

-- a line that cannot be read, or want of memory
abbrev pub failure_of : ReadError → Failure
failure_of errors.Memory = failures.Memory
failure_of (errors.Fault fault) = failures.Unreadable fault
