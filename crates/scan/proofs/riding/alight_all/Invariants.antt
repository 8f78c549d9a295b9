use Rattle.journeys.specs.Scan.{alight}
use Rattle.scan.proofs.Extending.{Going}
use Rattle.scan.proofs.riding.alight_all.Given as goal

abbrev pub invariant-loop-passenger : goal.invariant-loop-passenger
invariant-loop-passenger g l = Going (λ room. alight (g.F.Fare.model l.fare) room l.turn.round l.turn.place l.turn.hop) l.initial.labels l.labels l.aboard l.passenger-index
