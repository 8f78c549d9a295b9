use Rattle.std.proofs.Common.{◌<◌, arith}
use Rattle.fares.specs.declared.fare_state.FareState.{FareState}
use Rattle.journeys.specs.Selection.{price_bound}
use Rattle.journeys.proofs.LawfulFare.{fare_laws}
use Rattle.planner.specs.Lent.{memory_of}
use Rattle.day_planner.specs.Inquiries.{basis_of, log_of}
use Rattle.day_planner.specs.Promise.{fare_of}
use Rattle.day_planner.proofs.Promised.{promised_after}
use Rattle.day_planner.proofs.two_boards.compare.Goals as goal

pub returns-clause-second_promise : goal.returns-clause-second_promise
returns-clause-second_promise g c =
    let i = c.args.second in
    let b = basis_of g.U.Timetable.hops g.G.Tariff.model g.N.Measure.model i in
    let low : (s : FareState g.row.G-Ticket.Denot g.row.N-Weight.Denot) → (fare_of b).price s < price_bound = λ s. omega (arith, g.met.G.Tariff.priced i.tariff s.ticket) in
    let laws = fare_laws b.tariff b.measure b.stops (g.met.G.LawfulTariff.lawful i.tariff) (g.met.N.LawfulMeasure.lawful i.measure) in
    promised_after b (g.U.Timetable.rule i.timetable) laws low (log_of i) i.question (memory_of c.args.other.now)
