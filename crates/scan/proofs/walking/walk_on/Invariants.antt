use Rattle.std.proofs.Common.{length}
use Rattle.scan.proofs.Walkers.{Walking}
use Rattle.scan.proofs.Walks.{remaining}
use Rattle.scan.proofs.walking.walk_on.Given as goal

abbrev pub invariant-loop-at : goal.invariant-loop-at
invariant-loop-at g l = Walking (g.F.Fare.model l.fare) l.from l.label l.initial.labels l.labels l.paths.paths.now l.at

abbrev pub decreases-loop-at : goal.decreases-loop-at
decreases-loop-at g l = remaining (length l.paths.paths.now) l.at
