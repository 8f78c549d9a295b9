use Rattle.timetable.proofs.LineLimits.{tested}
use Rattle.timetable.proofs.interval_line.IntervalLine.open.Goals as goal

pub returns-then-not-is_allowed-clause-limits : goal.returns-then-not-is_allowed-clause-limits
returns-then-not-is_allowed-clause-limits c = tested c.args.pattern.now c.args.interval c.args.trips _ c.if-not-is_allowed.ensures

pub returns-clause-limits : goal.returns-clause-limits
returns-clause-limits c = tested c.args.pattern.now c.args.interval c.args.trips _ c.if-not-is_allowed.ensures
