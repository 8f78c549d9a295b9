use Rattle.std.proofs.Common.{rules, ◌∙◌, arith}
use Rattle.retrace.proofs.Hops.{place_small, hop_there, hop_read}
use Rattle.retrace.proofs.course.Course.hop.Goals as goal

pub overflow_cast-place : goal.overflow_cast-place
overflow_cast-place g c = omega (arith, place_small (g.T.Timetable.hops c.args.self.now.timetable.now) c.args.place c.requires)

pub unwrap-requires : goal.unwrap-requires
unwrap-requires g c =
    let e = c.hop.ensures ∙ hop_there (g.T.Timetable.hops c.args.self.now.timetable.now) c.args.place c.requires in
    rw e (search rules)

pub returns : goal.returns
returns g c = hop_read (g.T.Timetable.hops c.args.self.now.timetable.now) c.args.place c.requires c.unwrap.result c.hop.result c.hop.ensures c.unwrap.ensures
