use Rattle.std.proofs.Common.{◌≡◌, drop}
use Rattle.sheet.specs.Rows.{fault_from, first_fault}
use Rattle.sheet.proofs.writing.find_fault.Given as goal

-- the rows from k on have the first fault of all
abbrev pub invariant-loop-k : goal.invariant-loop-k
invariant-loop-k l = fault_from l.before l.k (drop l.k l.rows) ≡ first_fault l.rows
