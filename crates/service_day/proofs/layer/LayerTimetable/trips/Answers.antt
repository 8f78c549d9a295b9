use Rattle.service_day.proofs.LayerAnswers.{same_trips}
use Rattle.service_day.proofs.layer.LayerTimetable.trips.Goals as goal

pub returns : goal.returns
returns g c =
    let l = c.args.self.now in
    same_trips (g.C.Changes.change l.changes) (g.C.Changes.gentle l.changes).trip (g.T.Timetable.hops l.below) _ c.trips.ensures
