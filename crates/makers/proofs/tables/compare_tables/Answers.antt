use Rattle.timetable.specs.MakerTimetables.{maker_rule}
use Rattle.planner.specs.Lent.{memory_of}
use Rattle.day_planner.specs.Inquiries.{log_of}
use Rattle.day_planner.proofs.SameRooms.{asked_alike_answer_alike}
use Rattle.makers.specs.MakerBoards.{table_basis}
use Rattle.makers.proofs.tables.compare_tables.Goals as goal

pub returns-clause-asked_alike : goal.returns-clause-asked_alike
returns-clause-asked_alike c =
    let i = c.args.first in
    let j = c.args.second in
    asked_alike_answer_alike (table_basis i) (maker_rule i.timetable) (log_of i) i.question (memory_of c.args.lent.now)
    (table_basis j) (log_of j) j.question (memory_of c.args.other.now) c.compare.result c.compare.ensures.answer
