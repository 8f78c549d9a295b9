use Rattle.std.proofs.Common.{length}
use Rattle.journeys.specs.Labels.{covers}
use Rattle.scan.specs.Chains.{slot}
use Rattle.scan.specs.Stores.{labels_of}
use Rattle.scan.proofs.Chains.{stop_of}
use Rattle.scan.proofs.Slots.{covers_none}
use Rattle.scan.proofs.Walks.{remaining, Seeking}
use Rattle.scan.proofs.covering.is_covered.Given as goal

abbrev pub invariant-loop-at : goal.invariant-loop-at
invariant-loop-at g l =
    let f = g.F.Fare.model l.fare in
    Seeking stop_of (slot l.candidate.stop) (λ x. covers f x l.candidate) (covers_none f l.candidate) (labels_of l.labels) l.at

abbrev pub decreases-loop-at : goal.decreases-loop-at
decreases-loop-at g l = remaining (length (labels_of l.labels)) l.at
