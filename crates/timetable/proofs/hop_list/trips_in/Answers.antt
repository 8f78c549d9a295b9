use Rattle.std.proofs.Common.{rules}
use Rattle.timetable.proofs.Places.{last_read}
use Rattle.timetable.proofs.hop_list.trips_in.Goals as goal

pub returns : goal.returns
returns c = rw (last_read c.args.hops.now) (search rules)
