use Rattle.short_list.specs.Items.{items}
use Rattle.timetable.proofs.Lines.{trips_is}
use Rattle.timetable.proofs.interval_line.IntervalLine.trip_count.Goals as goal

pub returns : goal.returns
returns c = let l = c.args.self.now in trips_is (items l.pattern) l.interval l.trips l.allowed
