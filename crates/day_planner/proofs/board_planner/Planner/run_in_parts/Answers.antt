use Rattle.std.proofs.Common.{◌<◌, arith}
use Rattle.fares.specs.declared.fare_state.FareState.{FareState}
use Rattle.journeys.specs.Selection.{price_bound}
use Rattle.journeys.proofs.LawfulFare.{fare_laws}
use Rattle.planner.specs.Lent.{lent}
use Rattle.day_planner.specs.Planners.{day_in, parts_of, basis}
use Rattle.day_planner.specs.Promise.{fare_of}
use Rattle.day_planner.proofs.Keeping.{each_kept}
use Rattle.day_planner.proofs.board_planner.Planner.run_in_parts.Goals as goal

pub returns-clause-promises : goal.returns-clause-promises
returns-clause-promises g c =
    let p = parts_of c.args.self.now in
    let b = basis g.T.Timetable.hops g.F.Tariff.model g.M.Measure.model p c.args.network.now in
    let low : (s : FareState g.row.F-Ticket.Denot g.row.M-Weight.Denot) → (fare_of b).price s < price_bound = λ s. omega (arith, g.met.F.Tariff.priced p.tariff s.ticket) in
    let laws = fare_laws b.tariff b.measure b.stops (g.met.F.LawfulTariff.lawful p.tariff) (g.met.M.LawfulMeasure.lawful p.measure) in
    each_kept b (g.T.Timetable.rule p.timetable) laws low (day_in c.args.self.now) (lent c.args.store.now c.args.aboard.now c.args.out.now) c.args.log.now
