use Rattle.std.proofs.Common.{◌≡◌, drop}
use Rattle.scan.specs.Chains.{first_in}
use Rattle.scan.proofs.PathTables.{path_from}
use Rattle.scan.proofs.path_table.PathTable.seek.Given as goal

abbrev pub invariant-loop-place : goal.invariant-loop-place
invariant-loop-place l = first_in path_from l.wanted l.begin (drop l.begin l.self.paths.now) ≡ first_in path_from l.wanted l.place (drop l.place l.self.paths.now)
