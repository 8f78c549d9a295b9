use Rattle.scan.proofs.Stages.{Done}
use Rattle.scan.proofs.ride.Ride.rounds.Given as goal

abbrev pub invariant-loop-round : goal.invariant-loop-round
invariant-loop-round g l = Done (g.F.Fare.model l.given.fare.now) (g.T.Timetable.hops l.given.timetable.now) l.given.paths.now.paths.now l.fn.self l.self l.round
