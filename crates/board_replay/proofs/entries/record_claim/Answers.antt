use Rattle.planner.specs.Lent.{memory_of}
use Rattle.day_planner.specs.declared.entry.Entry.TheVariants.{Ask}
use Rattle.day_planner.specs.Planners.{day_in, parts_of, basis}
use Rattle.board_replay.proofs.Showing.{record_promise, sheet_read_back}
use Rattle.board_replay.proofs.entries.record_claim.Goals as goal

pub returns-in_err-write_shown-clause-promise : goal.returns-in_err-write_shown-clause-promise
returns-in_err-write_shown-clause-promise g c =
    record_promise (basis g.T.Timetable.hops g.F.Tariff.model g.M.Measure.model (parts_of c.args.planner.now) c.args.network.now) (day_in c.args.planner.now) (memory_of c.args.lent.now) (Ask c.args.question) c.enter-reply.result (memory_of c.enter-reply.new.lent)
    c.enter-reply.ensures.reply c.enter-reply.ensures.memory c.enter-reply.ensures.promise

pub returns-in_err-write_shown-clause-again : goal.returns-in_err-write_shown-clause-again
returns-in_err-write_shown-clause-again g c = sheet_read_back (basis g.T.Timetable.hops g.F.Tariff.model g.M.Measure.model (parts_of c.args.planner.now) c.args.network.now) (day_in c.args.planner.now) (memory_of c.args.lent.now) c.args.question

pub returns-in_err-write_compared-clause-promise : goal.returns-in_err-write_compared-clause-promise
returns-in_err-write_compared-clause-promise g c =
    record_promise (basis g.T.Timetable.hops g.F.Tariff.model g.M.Measure.model (parts_of c.args.planner.now) c.args.network.now) (day_in c.args.planner.now) (memory_of c.args.lent.now) (Ask c.args.question) c.enter-reply.result (memory_of c.enter-reply.new.lent)
    c.enter-reply.ensures.reply c.enter-reply.ensures.memory c.enter-reply.ensures.promise

pub returns-in_err-write_compared-clause-again : goal.returns-in_err-write_compared-clause-again
returns-in_err-write_compared-clause-again g c = sheet_read_back (basis g.T.Timetable.hops g.F.Tariff.model g.M.Measure.model (parts_of c.args.planner.now) c.args.network.now) (day_in c.args.planner.now) (memory_of c.args.lent.now) c.args.question

pub returns-clause-promise : goal.returns-clause-promise
returns-clause-promise g c =
    record_promise (basis g.T.Timetable.hops g.F.Tariff.model g.M.Measure.model (parts_of c.args.planner.now) c.args.network.now) (day_in c.args.planner.now) (memory_of c.args.lent.now) (Ask c.args.question) c.enter-reply.result (memory_of c.enter-reply.new.lent)
    c.enter-reply.ensures.reply c.enter-reply.ensures.memory c.enter-reply.ensures.promise

pub returns-clause-again : goal.returns-clause-again
returns-clause-again g c = sheet_read_back (basis g.T.Timetable.hops g.F.Tariff.model g.M.Measure.model (parts_of c.args.planner.now) c.args.network.now) (day_in c.args.planner.now) (memory_of c.args.lent.now) c.args.question
