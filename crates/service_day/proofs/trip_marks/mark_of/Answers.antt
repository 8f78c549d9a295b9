use Rattle.std.proofs.Common.{refl}
use Rattle.service_day.specs.Marks.{mark_of}
use Rattle.service_day.proofs.trip_marks.mark_of.Goals as goal

pub returns-clause-is : goal.returns-clause-is
unfolding mark_of
returns-clause-is c = refl
