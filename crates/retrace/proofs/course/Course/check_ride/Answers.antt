use Rattle.std.proofs.Common.{sym, ap, ◌∙◌, arith, length-take}
use Rattle.timetable.specs.Table.{most_hops}
use Rattle.retrace.proofs.course.Course.check_ride.Goals as goal

pub returns-then-leg-count : goal.returns-then-leg-count
returns-then-leg-count g c =
    ((c.requires, omega arith), omega (arith, length-take most_hops (g.T.Timetable.hops c.args.self.now.timetable.now), c.count.ensures))

pub hop-hop-requires : goal.hop-hop-requires
hop-hop-requires g c = omega (arith, length-take most_hops (g.T.Timetable.hops c.args.self.now.timetable.now), c.count.ensures)

pub returns-then-hop-at : goal.returns-then-hop-at
returns-then-hop-at g c = (
  (c.requires, omega arith),
  omega (arith, length-take most_hops (g.T.Timetable.hops c.args.self.now.timetable.now), c.count.ensures),
  λ e. c.if-hop-at.true (ap (λ h. h.from) c.hop-hop.ensures ∙ e),
)

pub returns-then-from-at : goal.returns-then-from-at
returns-then-from-at g c = (
  (c.requires, omega arith),
  omega (arith, length-take most_hops (g.T.Timetable.hops c.args.self.now.timetable.now), c.count.ensures),
  sym (ap (λ h. h.from) c.hop-hop.ensures) ∙ c.if-hop-at.false,
  omega (arith, ap (λ h. h.departure) c.hop-hop.ensures),
)

pub check_hops-requires : goal.check_hops-requires
check_hops-requires g c = record {
  forth = (c.requires, omega arith);
  is = omega (arith, length-take most_hops (g.T.Timetable.hops c.args.self.now.timetable.now), c.count.ensures);
  here = sym (ap (λ h. h.from) c.hop-hop.ensures) ∙ c.if-hop-at.false;
  later = omega (arith, ap (λ h. h.departure) c.hop-hop.ensures);
}
