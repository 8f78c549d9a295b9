use Rattle.std.proofs.Common.{◌≡◌}
use Rattle.planner.specs.Lent.{lent, SameParts}
use Rattle.day_planner.specs.Planners.{day_in, parts_of, basis}
use Rattle.day_planner.proofs.Entries.{Running}
use Rattle.day_planner.proofs.board_planner.Planner.run_in_parts.Given as goal

abbrev pub invariant-loop-entry : goal.invariant-loop-entry
invariant-loop-entry g l =
    Running (basis g.T.Timetable.hops g.F.Tariff.model g.M.Measure.model (parts_of l.initial.self) l.network) l.log
    (day_in l.initial.self) (lent l.initial.store l.initial.aboard l.initial.out) l.entry-index
    (day_in l.self) (lent l.store l.aboard l.out)
    × (parts_of l.self ≡ parts_of l.initial.self)
    × SameParts l.initial.store l.store l.initial.out l.out
