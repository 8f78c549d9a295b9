use Rattle.std.proofs.Common.{rules, ◌≡◌, ◌<◌, arith, Ok}
use Rattle.fares.specs.declared.fare_state.FareState.{FareState}
use Rattle.journeys.specs.Selection.{price_bound}
use Rattle.journeys.proofs.LawfulFare.{fare_laws}
use Rattle.planner.specs.Lent.{lent}
use Rattle.planner.specs.Outcome.{Memory}
use Rattle.day_planner.specs.declared.reply.Reply.TheVariants.{Done}
use Rattle.day_planner.specs.Log.{reply_to}
use Rattle.day_planner.specs.Planners.{day_in, parts_of, basis}
use Rattle.day_planner.specs.Promise.{fare_of}
use Rattle.day_planner.proofs.Keeping.{reply_kept}
use Rattle.day_planner.proofs.board_planner.Planner.enter_in_parts.Goals as goal

pub returns-in_err-cancel-in-Cancel-clause-promise : goal.returns-in_err-cancel-in-Cancel-clause-promise
returns-in_err-cancel-in-Cancel-clause-promise g c =
    let b = basis g.T.Timetable.hops g.F.Tariff.model g.M.Measure.model (parts_of c.args.self.now) c.args.network.now in
    let low : (s : FareState g.row.F-Ticket.Denot g.row.M-Weight.Denot) → (fare_of b).price s < price_bound = λ s. omega (arith, g.met.F.Tariff.priced (parts_of c.args.self.now).tariff s.ticket) in
    let laws = fare_laws b.tariff b.measure b.stops (g.met.F.LawfulTariff.lawful (parts_of c.args.self.now).tariff) (g.met.M.LawfulMeasure.lawful (parts_of c.args.self.now).measure) in
    let m : Memory (FareState g.row.F-Ticket.Denot g.row.M-Weight.Denot) = lent c.args.store.now c.args.aboard.now c.args.out.now in
    let replied : c.from_residual.result ≡ reply_to b (day_in c.args.self.now) m c.args.entry = search rules in
    reply_kept b (g.T.Timetable.rule (parts_of c.args.self.now).timetable) laws low (day_in c.args.self.now) m c.args.entry (c.from_residual.result) m replied (search rules)

pub returns-in_err-reinstate-in-Reinstate-clause-promise : goal.returns-in_err-reinstate-in-Reinstate-clause-promise
returns-in_err-reinstate-in-Reinstate-clause-promise g c =
    let b = basis g.T.Timetable.hops g.F.Tariff.model g.M.Measure.model (parts_of c.args.self.now) c.args.network.now in
    let low : (s : FareState g.row.F-Ticket.Denot g.row.M-Weight.Denot) → (fare_of b).price s < price_bound = λ s. omega (arith, g.met.F.Tariff.priced (parts_of c.args.self.now).tariff s.ticket) in
    let laws = fare_laws b.tariff b.measure b.stops (g.met.F.LawfulTariff.lawful (parts_of c.args.self.now).tariff) (g.met.M.LawfulMeasure.lawful (parts_of c.args.self.now).measure) in
    let m : Memory (FareState g.row.F-Ticket.Denot g.row.M-Weight.Denot) = lent c.args.store.now c.args.aboard.now c.args.out.now in
    let replied : c.from_residual-in_err-reinstate-in-Reinstate.result ≡ reply_to b (day_in c.args.self.now) m c.args.entry = search rules in
    reply_kept b (g.T.Timetable.rule (parts_of c.args.self.now).timetable) laws low (day_in c.args.self.now) m c.args.entry (c.from_residual-in_err-reinstate-in-Reinstate.result) m replied (search rules)

pub returns-in_err-delay-in-Delay-clause-promise : goal.returns-in_err-delay-in-Delay-clause-promise
returns-in_err-delay-in-Delay-clause-promise g c =
    let b = basis g.T.Timetable.hops g.F.Tariff.model g.M.Measure.model (parts_of c.args.self.now) c.args.network.now in
    let low : (s : FareState g.row.F-Ticket.Denot g.row.M-Weight.Denot) → (fare_of b).price s < price_bound = λ s. omega (arith, g.met.F.Tariff.priced (parts_of c.args.self.now).tariff s.ticket) in
    let laws = fare_laws b.tariff b.measure b.stops (g.met.F.LawfulTariff.lawful (parts_of c.args.self.now).tariff) (g.met.M.LawfulMeasure.lawful (parts_of c.args.self.now).measure) in
    let m : Memory (FareState g.row.F-Ticket.Denot g.row.M-Weight.Denot) = lent c.args.store.now c.args.aboard.now c.args.out.now in
    let replied : c.from_residual-in_err-delay-in-Delay.result ≡ reply_to b (day_in c.args.self.now) m c.args.entry = search rules in
    reply_kept b (g.T.Timetable.rule (parts_of c.args.self.now).timetable) laws low (day_in c.args.self.now) m c.args.entry (c.from_residual-in_err-delay-in-Delay.result) m replied (search rules)

pub returns-in_ok-delay-in-Delay-clause-promise : goal.returns-in_ok-delay-in-Delay-clause-promise
returns-in_ok-delay-in-Delay-clause-promise g c =
    let b = basis g.T.Timetable.hops g.F.Tariff.model g.M.Measure.model (parts_of c.args.self.now) c.args.network.now in
    let low : (s : FareState g.row.F-Ticket.Denot g.row.M-Weight.Denot) → (fare_of b).price s < price_bound = λ s. omega (arith, g.met.F.Tariff.priced (parts_of c.args.self.now).tariff s.ticket) in
    let laws = fare_laws b.tariff b.measure b.stops (g.met.F.LawfulTariff.lawful (parts_of c.args.self.now).tariff) (g.met.M.LawfulMeasure.lawful (parts_of c.args.self.now).measure) in
    let m : Memory (FareState g.row.F-Ticket.Denot g.row.M-Weight.Denot) = lent c.args.store.now c.args.aboard.now c.args.out.now in
    let replied : Ok Done ≡ reply_to b (day_in c.args.self.now) m c.args.entry = search rules in
    reply_kept b (g.T.Timetable.rule (parts_of c.args.self.now).timetable) laws low (day_in c.args.self.now) m c.args.entry (Ok Done) m replied (search rules)
