use Rattle.std.proofs.Common.{◌≡◌, ◌<◌, length, Some, None, Err, sym, refl, ap, subst, arith}
use Rattle.fares.specs.declared.fare_state.FareState.{FareState}
use Rattle.journeys.specs.NetworkFare.{fare_over}
use Rattle.journeys.specs.Scan.{scan_for}
use Rattle.journeys.specs.Selection.{price_bound}
use Rattle.journeys.proofs.LawfulFare.{fare_laws}
use Rattle.planner.specs.Lent.{lent}
use Rattle.planner.specs.Limits.{fault_of}
use Rattle.planner.specs.Outcome.{Memory, Leaves, scanned, refused, unless, asked}
use Rattle.planner.proofs.Asked.{ends_kept}
use Rattle.planner.proofs.Faulty.{err_is}
use Rattle.planner.proofs.board.ask_in_parts.Goals as goal

pub returns-in_err-check : goal.returns-in_err-check
returns-in_err-check g c =
    let t = g.F.Tariff.model c.args.board.now.tariff.now in
    let measure = g.M.Measure.model c.args.board.now.measure.now in
    let stops = c.args.network.now.stops.now in
    let paths = c.args.network.now.paths.now in
    let hops = g.T.Timetable.hops c.args.board.now.timetable.now in
    let q = c.args.question.now in
    let f = fare_over t measure stops in
    let m : Memory (FareState g.row.F-Ticket.Denot g.row.M-Weight.Denot) = lent c.args.store.now c.args.aboard.now c.args.out.now in
    let is : fault_of q stops paths hops (length m.sheet) (length m.legs) ≡ Some c.in_err-check.field-0.0 = sym c.in_err-check.ensures in
    let o = scanned f q.destination m (scan_for f hops paths q m.labels m.aboard) in
    let low : (s : FareState g.row.F-Ticket.Denot g.row.M-Weight.Denot) → f.price s < price_bound = λ s. omega (arith, g.met.F.Tariff.priced c.args.board.now.tariff.now s.ticket) in
    let laws = fare_laws t measure stops (g.met.F.LawfulTariff.lawful c.args.board.now.tariff.now) (g.met.M.LawfulMeasure.lawful c.args.board.now.measure.now) in
    let e : refused c.in_err-check.field-0.0 m ≡ asked f hops stops paths q m = sym (ap (λ x. unless x m o) is) in
    let told = err_is c.from_residual.result c.in_err-check.field-0.0 c.from_residual.ensures.1 in
    let out : Leaves (asked f hops stops paths q m) c.from_residual.result m.labels m.written m.aboard m.sheet m.legs =
    subst (λ a. Leaves (asked f hops stops paths q m) a m.labels m.written m.aboard m.sheet m.legs) (sym told)
    (subst (λ x. Leaves x (Err c.in_err-check.field-0.0) m.labels m.written m.aboard m.sheet m.legs) e (record { answer = refl; labels = refl; written = refl; aboard = refl; sheet = refl; legs = refl })) in
    record {
      outcome = out;
      promise = ends_kept f hops stops paths q m (g.T.Timetable.rule c.args.board.now.timetable.now) laws low c.from_residual.result m out;
      same_lists = record { labels = refl; sheet = refl; legs = refl };
    }

pub returns : goal.returns
returns g c =
    let t = g.F.Tariff.model c.args.board.now.tariff.now in
    let measure = g.M.Measure.model c.args.board.now.measure.now in
    let stops = c.args.network.now.stops.now in
    let paths = c.args.network.now.paths.now in
    let hops = g.T.Timetable.hops c.args.board.now.timetable.now in
    let q = c.args.question.now in
    let f = fare_over t measure stops in
    let m : Memory (FareState g.row.F-Ticket.Denot g.row.M-Weight.Denot) = lent c.args.store.now c.args.aboard.now c.args.out.now in
    let n : Memory (FareState g.row.F-Ticket.Denot g.row.M-Weight.Denot) = lent c.answer.new.store c.answer.new.aboard c.answer.new.out in
    let none : fault_of q stops paths hops (length m.sheet) (length m.legs) ≡ None = sym c.in_ok-check.ensures in
    let o = scanned f q.destination m (scan_for f hops paths q m.labels m.aboard) in
    let e : o ≡ asked f hops stops paths q m = sym (ap (λ x. unless x m o) none) in
    let low : (s : FareState g.row.F-Ticket.Denot g.row.M-Weight.Denot) → f.price s < price_bound = λ s. omega (arith, g.met.F.Tariff.priced c.args.board.now.tariff.now s.ticket) in
    let laws = fare_laws t measure stops (g.met.F.LawfulTariff.lawful c.args.board.now.tariff.now) (g.met.M.LawfulMeasure.lawful c.args.board.now.measure.now) in
    let out : Leaves (asked f hops stops paths q m) c.answer.result n.labels n.written n.aboard n.sheet n.legs =
    subst (λ x. Leaves x c.answer.result n.labels n.written n.aboard n.sheet n.legs) e c.answer.ensures.outcome in
    record {
      outcome = out;
      promise = ends_kept f hops stops paths q m (g.T.Timetable.rule c.args.board.now.timetable.now) laws low c.answer.result n out;
      same_lists = c.answer.ensures.same_lists;
    }
