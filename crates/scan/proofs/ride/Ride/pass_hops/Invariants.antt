use Rattle.std.proofs.Common.{◌≡◌, true}
use Rattle.scan.specs.Rounds.{all_from}
use Rattle.scan.specs.Stores.{labels_of}
use Rattle.scan.proofs.Stages.{Passing}
use Rattle.scan.proofs.ride.Ride.pass_hops.Given as goal

abbrev pub invariant-loop-place : goal.invariant-loop-place
invariant-loop-place g l =
    Passing (g.F.Fare.model l.given.fare.now) (g.T.Timetable.hops l.given.timetable.now) l.round l.fn.self l.self l.place
    × (all_from l.begins l.round (labels_of l.self.labels.now) ≡ true)
