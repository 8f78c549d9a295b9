use Rattle.std.proofs.Common.{length}
use Rattle.scan.specs.Stores.{labels_of}
use Rattle.scan.proofs.Boarders.{Boarding}
use Rattle.scan.proofs.Walks.{remaining}
use Rattle.scan.proofs.boarding.board_all.Given as goal

abbrev pub invariant-loop-at : goal.invariant-loop-at
invariant-loop-at g l = Boarding (g.F.Fare.model l.fare) l.turn.round l.turn.place l.turn.hop l.initial.aboard l.aboard (labels_of l.labels) l.at

abbrev pub decreases-loop-at : goal.decreases-loop-at
decreases-loop-at g l = remaining (length (labels_of l.labels)) l.at
