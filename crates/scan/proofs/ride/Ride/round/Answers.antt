use Rattle.std.proofs.Common.{refl}
use Rattle.scan.proofs.Stages.{carried_then}
use Rattle.scan.proofs.ride.Ride.round.Goals as goal

pub returns-clause-carried : goal.returns-clause-carried
returns-clause-carried g c =
    carried_then _ c.pass_hops.new.self _ c.pass_hops.ensures.carried (record { labels = c.walks.ensures.extended; same = refl; room = refl; same_labels = refl; same_aboard = refl })
