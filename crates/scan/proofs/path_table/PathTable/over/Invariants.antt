use Rattle.std.proofs.Common.{take}
use Rattle.scan.specs.Chains.{slots}
use Rattle.scan.proofs.PathTables.{Built}
use Rattle.scan.proofs.path_table.PathTable.over.Given as goal

abbrev pub invariant-loop-place : goal.invariant-loop-place
invariant-loop-place l = Built (take slots l.paths) l.place l.first l.next
