use Rattle.std.proofs.Common.{length, ◌∙◌}
use Rattle.planner.specs.declared.refusal.Refusal.TheVariants.{Question, ShortOutput}
use Rattle.planner.proofs.Faulty.{fault_in_question, fault_in_network, fault_in_room, no_fault, fails_with}
use Rattle.planner.proofs.asking.check.Goals as goal

pub returns-in_err-check_question : goal.returns-in_err-check_question
returns-in_err-check_question g c =
    fails_with c.from_residual.result (Question c.in_err-check_question.field-0.0) c.from_residual.ensures.1
    ∙ fault_in_question c.args.question.now c.args.network.now.stops.now c.args.network.now.paths.now (g.T.Timetable.hops c.args.timetable.now) (length c.args.out.now.sheet.now) (length c.args.out.now.legs.now) c.count.result c.count.ensures c.in_err-check_question.field-0.0 c.in_err-check_question.ensures

pub returns-in_err-check_network : goal.returns-in_err-check_network
returns-in_err-check_network g c =
    fails_with c.from_residual-in_err-check_network.result c.in_err-check_network.field-0.0 c.from_residual-in_err-check_network.ensures.1
    ∙ fault_in_network c.args.question.now c.args.network.now.stops.now c.args.network.now.paths.now (g.T.Timetable.hops c.args.timetable.now) (length c.args.out.now.sheet.now) (length c.args.out.now.legs.now) c.count.result c.count.ensures c.in_err-check_network.field-0.0 c.in_ok-check_question.ensures c.in_err-check_network.ensures

pub returns-in_err-check_room : goal.returns-in_err-check_room
returns-in_err-check_room g c =
    fails_with c.from_residual-in_err-check_room.result (ShortOutput c.in_err-check_room.field-0.0) c.from_residual-in_err-check_room.ensures.1
    ∙ fault_in_room c.args.question.now c.args.network.now.stops.now c.args.network.now.paths.now (g.T.Timetable.hops c.args.timetable.now) (length c.args.out.now.sheet.now) (length c.args.out.now.legs.now) c.count.result c.count.ensures c.in_err-check_room.field-0.0 c.in_ok-check_question.ensures c.in_ok-check_network.ensures c.in_err-check_room.ensures

pub returns : goal.returns
returns g c = no_fault c.args.question.now c.args.network.now.stops.now c.args.network.now.paths.now (g.T.Timetable.hops c.args.timetable.now) (length c.args.out.now.sheet.now) (length c.args.out.now.legs.now) c.count.result c.count.ensures c.in_ok-check_question.ensures c.in_ok-check_network.ensures c.in_ok-check_room.ensures
