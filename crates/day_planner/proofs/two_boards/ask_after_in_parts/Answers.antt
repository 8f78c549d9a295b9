use Rattle.std.proofs.Common.{◌∙◌}
use Rattle.fares.specs.declared.fare_state.FareState.{FareState}
use Rattle.planner.specs.Lent.{lent}
use Rattle.planner.specs.Outcome.{Memory}
use Rattle.day_planner.specs.Inquiries.{parts_in, log_of}
use Rattle.day_planner.specs.Planners.{day_in, parts_of}
use Rattle.day_planner.proofs.AfterLog.{outcome_after, promise_after}
use Rattle.day_planner.proofs.two_boards.ask_after_in_parts.Goals as goal

pub returns : goal.returns
returns g c =
    let i = c.args.inquiry in
    let m₀ : Memory (FareState g.row.F-Ticket.Denot g.row.M-Weight.Denot) = lent c.args.store.now c.args.aboard.now c.args.out.now in
    let m₁ : Memory (FareState g.row.F-Ticket.Denot g.row.M-Weight.Denot) = lent c.run_in_parts.new.store c.run_in_parts.new.aboard c.run_in_parts.new.out in
    let m₂ : Memory (FareState g.row.F-Ticket.Denot g.row.M-Weight.Denot) = lent c.ask_in_parts.new.store c.ask_in_parts.new.aboard c.ask_in_parts.new.out in
    let made = c.new-planner.result in
    let ran = c.run_in_parts.new.self in
    let told = outcome_after g.T.Timetable.hops g.F.Tariff.model g.M.Measure.model i.network (log_of i) (parts_in i) (parts_of made) (parts_of ran) (day_in made) (day_in ran) m₀ m₁
    c.new-planner.ensures.parts c.new-planner.ensures.day c.run_in_parts.ensures.parts c.run_in_parts.ensures.day c.run_in_parts.ensures.memory i.question c.ask_in_parts.result m₂ c.ask_in_parts.ensures.outcome in
    let asked = c.ask_in_parts.ensures.same_lists in
    let logged = c.run_in_parts.ensures.same_lists in
    record {
      outcome = told;
      promise = promise_after g.T.Timetable.hops g.F.Tariff.model g.M.Measure.model i.network (log_of i) (parts_in i) (parts_of made) (parts_of ran) (day_in made) (day_in ran) m₀ m₁
          c.new-planner.ensures.parts c.new-planner.ensures.day c.run_in_parts.ensures.parts c.run_in_parts.ensures.day c.run_in_parts.ensures.memory i.question c.ask_in_parts.result m₂ (g.T.Timetable.rule i.timetable) c.ask_in_parts.ensures.promise;
      same_lists = record {
        labels = asked.labels ∙ logged.labels;
        sheet = asked.sheet ∙ logged.sheet;
        legs = asked.legs ∙ logged.legs;
      };
    }
