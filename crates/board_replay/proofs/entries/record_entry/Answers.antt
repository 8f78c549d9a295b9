use Rattle.planner.specs.Lent.{memory_of}
use Rattle.day_planner.specs.Planners.{day_in, parts_of, basis}
use Rattle.board_replay.proofs.Showing.{record_promise}
use Rattle.board_replay.proofs.entries.record_entry.Goals as goal

pub returns-clause-promise : goal.returns-clause-promise
returns-clause-promise g c =
    record_promise (basis g.T.Timetable.hops g.F.Tariff.model g.M.Measure.model (parts_of c.args.planner.now) c.args.network.now) (day_in c.args.planner.now) (memory_of c.args.lent.now) c.args.entry c.enter-reply.result (memory_of c.enter-reply.new.lent)
    c.enter-reply.ensures.reply c.enter-reply.ensures.memory c.enter-reply.ensures.promise
