use Rattle.std.proofs.Common.{◌≡◌, Ok, rules, ap, sym, ◌∙◌}
use Rattle.journeys.specs.Labels.{label_at_origin}
use Rattle.journeys.specs.Scan.{offer}
use Rattle.scan.specs.Stores.{labels_of, room_of}
use Rattle.scan.proofs.Stages.{scan_from}
use Rattle.scan.proofs.ride.scan.Goals as goal

pub returns-clause-run : goal.returns-clause-run
returns-clause-run g c =
    let f = g.F.Fare.model c.args.given.now.fare.now in
    let hops = g.T.Timetable.hops c.args.given.now.timetable.now in
    let paths = c.args.given.now.paths.now.paths.now in
    let q = c.args.question.now in
    let old = c.args.labels.now in
    let origin : c.at_origin-origin.result ≡ label_at_origin f q.origin q.departure = search rules in
    let t = scan_from f hops paths old c.offer.new.labels c.args.aboard.now (label_at_origin f q.origin q.departure) (Ok tt) q.rides _ c.requires.unwritten c.requires.nobody
    (ap (λ l. offer f (room_of old) l (labels_of old)) (sym origin) ∙ c.in_ok-offer.ensures.run) c.offer.ensures.extended c.rounds.ensures.run in
    (c.rounds.new.self.trip, search rules)
