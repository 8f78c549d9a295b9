use Rattle.journeys.specs.Scan.{walk_on}
use Rattle.scan.specs.Stores.{labels_of}
use Rattle.scan.proofs.Extending.{Going}
use Rattle.scan.proofs.walking.walks.Given as goal

abbrev pub invariant-loop-from : goal.invariant-loop-from
invariant-loop-from g l = Going (λ room. walk_on (g.F.Fare.model l.fare) room l.paths.paths.now l.round) l.initial.labels l.labels (labels_of l.initial.labels) l.from
