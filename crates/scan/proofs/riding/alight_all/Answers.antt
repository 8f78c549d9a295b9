use Rattle.std.proofs.Common.{ap, sym, ◌∙◌}
use Rattle.journeys.specs.Scan.{offer}
use Rattle.scan.specs.Stores.{labels_of, room_of}
use Rattle.scan.proofs.Extending.{goes_on}
use Rattle.scan.proofs.riding.alight_all.Goals as goal

pub loop-passenger-preserved : goal.loop-passenger-preserved
loop-passenger-preserved g c =
    let mid = c.loop-passenger.labels in
    goes_on _ _ mid _ _ _ _ c.loop-passenger-test.true c.passenger-item.is c.loop-passenger.invariant
    (ap (λ l. offer (g.F.Fare.model c.args.fare.now) (room_of mid) l (labels_of mid)) (sym c.ride_label.ensures) ∙ c.in_ok-offer.ensures.run) c.offer.ensures.extended
