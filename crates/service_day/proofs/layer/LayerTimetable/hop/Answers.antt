use Rattle.std.proofs.Common.{Some, ap, ◌∙◌}
use Rattle.service_day.proofs.LayerAnswers.{hop_changed, answered_fit}
use Rattle.service_day.proofs.layer.LayerTimetable.hop.Goals as goal

pub changed-requires : goal.changed-requires
changed-requires g c =
    let l = c.args.self.now in
    answered_fit (g.T.Timetable.hops l.below) (g.T.Timetable.rule l.below) c.args.place c.in_ok-hop.hop c.in_ok-hop.ensures

pub returns : goal.returns
returns g c =
    let l = c.args.self.now in
    ap Some c.changed.ensures
    ∙ hop_changed (g.C.Changes.change l.changes) (g.T.Timetable.hops l.below) c.args.place (Some c.in_ok-hop.hop) c.in_ok-hop.ensures
