use Rattle.std.proofs.Common.{rules, ◌≡◌, ◌<◌, Ok, Err, sym, ap, ◌∙◌, subst, arith}
use Rattle.fares.specs.declared.fare_state.FareState.{FareState}
use Rattle.journeys.specs.Selection.{price_bound}
use Rattle.journeys.proofs.LawfulFare.{fare_laws}
use Rattle.planner.specs.declared.refused.Refused.TheVariants.{First, Second}
use Rattle.planner.specs.Comparing.{compared as compared_sheets, left_of_second}
use Rattle.planner.specs.Lent.{lent}
use Rattle.planner.specs.Outcome.{Memory}
use Rattle.planner.specs.Promise.{Promised}
use Rattle.planner.specs.ShownOffers.{promised_shows}
use Rattle.planner.proofs.Faulty.{err_is, was_ok, was_err}
use Rattle.planner.proofs.SameSheets.{same_sheets, compared_ok}
use Rattle.day_planner.specs.Inquiries.{basis_of, log_of}
use Rattle.day_planner.specs.Log.{asked_after, hops_after}
use Rattle.day_planner.specs.Promise.{fare_of, journeys_over}
use Rattle.day_planner.proofs.Promised.{left_is, promised_after}
use Rattle.day_planner.proofs.two_boards.compare_in_parts.Goals as goal

pub is_same_sheet-requires : goal.is_same_sheet-requires
is_same_sheet-requires g c =
    let one =
    let b = basis_of g.T.Timetable.hops g.F.Tariff.model g.M.Measure.model c.args.first in
    let q = c.args.first.question in
    let w = journeys_over b (hops_after b.hops (log_of c.args.first)) q in
    let out = c.ask_after_in_parts.new.out in
    promised_shows w q.destination q.rides (Ok c.in_ok-bytes.field-0) out.sheet.now out.legs.now
    (subst (λ r. Promised w q.destination q.rides r out.sheet.now out.legs.now) (was_ok _ c.ask_after_in_parts.result c.map_err.result c.in_ok-bytes.field-0 c.map_err.ensures.cases c.in_ok-bytes.was) c.ask_after_in_parts.ensures.promise.shown) in
    let two =
    let b = basis_of g.U.Timetable.hops g.G.Tariff.model g.N.Measure.model c.args.second in
    let q = c.args.second.question in
    let w = journeys_over b (hops_after b.hops (log_of c.args.second)) q in
    let out = c.ask_after_in_parts-2.new.out in
    promised_shows w q.destination q.rides (Ok c.in_ok-other_bytes.field-0) out.sheet.now out.legs.now
    (subst (λ r. Promised w q.destination q.rides r out.sheet.now out.legs.now) (was_ok _ c.ask_after_in_parts-2.result c.map_err-2.result c.in_ok-other_bytes.field-0 c.map_err-2.ensures.cases c.in_ok-other_bytes.was) c.ask_after_in_parts-2.ensures.promise.shown) in
    record { bytes_in_bounds = one.bytes_fit; other_bytes_in_bounds = two.bytes_fit }

pub returns-in_err-bytes : goal.returns-in_err-bytes
returns-in_err-bytes g c =
    let first_basis = basis_of g.T.Timetable.hops g.F.Tariff.model g.M.Measure.model c.args.first in
    let first_memory : Memory (FareState g.row.F-Ticket.Denot g.row.M-Weight.Denot) = lent c.args.store.now c.args.aboard.now c.args.out.now in
    let first_outcome = asked_after first_basis (log_of c.args.first) c.args.first.question first_memory in
    let first_low : (s : FareState g.row.F-Ticket.Denot g.row.M-Weight.Denot) → (fare_of first_basis).price s < price_bound = λ s. omega (arith, g.met.F.Tariff.priced c.args.first.tariff s.ticket) in
    let first_laws = fare_laws first_basis.tariff first_basis.measure first_basis.stops (g.met.F.LawfulTariff.lawful c.args.first.tariff) (g.met.M.LawfulMeasure.lawful c.args.first.measure) in
    let first_promise = promised_after first_basis (g.T.Timetable.rule c.args.first.timetable) first_laws first_low (log_of c.args.first) c.args.first.question first_memory in
    let second_basis = basis_of g.U.Timetable.hops g.G.Tariff.model g.N.Measure.model c.args.second in
    let second_memory : Memory (FareState g.row.G-Ticket.Denot g.row.N-Weight.Denot) = lent c.args.other_store.now c.args.other_aboard.now c.args.other_out.now in
    let second_outcome = asked_after second_basis (log_of c.args.second) c.args.second.question second_memory in
    let second_low : (s : FareState g.row.G-Ticket.Denot g.row.N-Weight.Denot) → (fare_of second_basis).price s < price_bound = λ s. omega (arith, g.met.G.Tariff.priced c.args.second.tariff s.ticket) in
    let second_laws = fare_laws second_basis.tariff second_basis.measure second_basis.stops (g.met.G.LawfulTariff.lawful c.args.second.tariff) (g.met.N.LawfulMeasure.lawful c.args.second.measure) in
    let second_promise = promised_after second_basis (g.U.Timetable.rule c.args.second.timetable) second_laws second_low (log_of c.args.second) c.args.second.question second_memory in
    let k = was_err _ c.ask_after_in_parts.result c.map_err.result c.in_err-bytes.field-0.0 c.map_err.ensures.cases c.in_err-bytes.was in
    let first_answer = sym k.1.0 ∙ c.ask_after_in_parts.ensures.outcome.answer in
    let why : c.in_err-bytes.field-0.0 ≡ First k.0 = search (k.1.1, rules) in
    let told = err_is c.from_residual.result c.in_err-bytes.field-0.0 c.from_residual.ensures.1 ∙ ap Err why in
    record {
      answer = told ∙ ap (λ r. compared_sheets r first_outcome.left.sheet second_outcome.answer second_outcome.left.sheet) first_answer;
      same_offers = search (told, rules);
      first_left = left_is first_outcome c.ask_after_in_parts.result (lent c.ask_after_in_parts.new.store c.ask_after_in_parts.new.aboard c.ask_after_in_parts.new.out) c.ask_after_in_parts.ensures.outcome;
      second_left = ap (λ r. left_of_second r second_memory second_outcome) first_answer;
      first_promise = first_promise;
      second_promise = second_promise;
    }

pub returns-in_err-other_bytes : goal.returns-in_err-other_bytes
returns-in_err-other_bytes g c =
    let first_basis = basis_of g.T.Timetable.hops g.F.Tariff.model g.M.Measure.model c.args.first in
    let first_memory : Memory (FareState g.row.F-Ticket.Denot g.row.M-Weight.Denot) = lent c.args.store.now c.args.aboard.now c.args.out.now in
    let first_outcome = asked_after first_basis (log_of c.args.first) c.args.first.question first_memory in
    let first_low : (s : FareState g.row.F-Ticket.Denot g.row.M-Weight.Denot) → (fare_of first_basis).price s < price_bound = λ s. omega (arith, g.met.F.Tariff.priced c.args.first.tariff s.ticket) in
    let first_laws = fare_laws first_basis.tariff first_basis.measure first_basis.stops (g.met.F.LawfulTariff.lawful c.args.first.tariff) (g.met.M.LawfulMeasure.lawful c.args.first.measure) in
    let first_promise = promised_after first_basis (g.T.Timetable.rule c.args.first.timetable) first_laws first_low (log_of c.args.first) c.args.first.question first_memory in
    let second_basis = basis_of g.U.Timetable.hops g.G.Tariff.model g.N.Measure.model c.args.second in
    let second_memory : Memory (FareState g.row.G-Ticket.Denot g.row.N-Weight.Denot) = lent c.args.other_store.now c.args.other_aboard.now c.args.other_out.now in
    let second_outcome = asked_after second_basis (log_of c.args.second) c.args.second.question second_memory in
    let second_low : (s : FareState g.row.G-Ticket.Denot g.row.N-Weight.Denot) → (fare_of second_basis).price s < price_bound = λ s. omega (arith, g.met.G.Tariff.priced c.args.second.tariff s.ticket) in
    let second_laws = fare_laws second_basis.tariff second_basis.measure second_basis.stops (g.met.G.LawfulTariff.lawful c.args.second.tariff) (g.met.N.LawfulMeasure.lawful c.args.second.measure) in
    let second_promise = promised_after second_basis (g.U.Timetable.rule c.args.second.timetable) second_laws second_low (log_of c.args.second) c.args.second.question second_memory in
    let answered = was_ok _ c.ask_after_in_parts.result c.map_err.result c.in_ok-bytes.field-0 c.map_err.ensures.cases c.in_ok-bytes.was in
    let first_answer = sym answered ∙ c.ask_after_in_parts.ensures.outcome.answer in
    let k = was_err _ c.ask_after_in_parts-2.result c.map_err-2.result c.in_err-other_bytes.field-0.0 c.map_err-2.ensures.cases c.in_err-other_bytes.was in
    let second_answer = sym k.1.0 ∙ c.ask_after_in_parts-2.ensures.outcome.answer in
    let why : c.in_err-other_bytes.field-0.0 ≡ Second k.0 = search (k.1.1, rules) in
    let told = err_is c.from_residual-in_err-other_bytes.result c.in_err-other_bytes.field-0.0 c.from_residual-in_err-other_bytes.ensures.1 ∙ ap Err why in
    record {
      answer = told
          ∙ ap (λ r. compared_sheets r first_outcome.left.sheet (Err k.0) second_outcome.left.sheet) first_answer
          ∙ ap (λ r. compared_sheets first_outcome.answer first_outcome.left.sheet r second_outcome.left.sheet) second_answer;
      same_offers = search (told, rules);
      first_left = left_is first_outcome c.ask_after_in_parts.result (lent c.ask_after_in_parts.new.store c.ask_after_in_parts.new.aboard c.ask_after_in_parts.new.out) c.ask_after_in_parts.ensures.outcome;
      second_left = left_is second_outcome c.ask_after_in_parts-2.result (lent c.ask_after_in_parts-2.new.store c.ask_after_in_parts-2.new.aboard c.ask_after_in_parts-2.new.out) c.ask_after_in_parts-2.ensures.outcome ∙ ap (λ r. left_of_second r second_memory second_outcome) first_answer;
      first_promise = first_promise;
      second_promise = second_promise;
    }

pub returns : goal.returns
returns g c =
    let first_basis = basis_of g.T.Timetable.hops g.F.Tariff.model g.M.Measure.model c.args.first in
    let first_memory : Memory (FareState g.row.F-Ticket.Denot g.row.M-Weight.Denot) = lent c.args.store.now c.args.aboard.now c.args.out.now in
    let first_outcome = asked_after first_basis (log_of c.args.first) c.args.first.question first_memory in
    let first_low : (s : FareState g.row.F-Ticket.Denot g.row.M-Weight.Denot) → (fare_of first_basis).price s < price_bound = λ s. omega (arith, g.met.F.Tariff.priced c.args.first.tariff s.ticket) in
    let first_laws = fare_laws first_basis.tariff first_basis.measure first_basis.stops (g.met.F.LawfulTariff.lawful c.args.first.tariff) (g.met.M.LawfulMeasure.lawful c.args.first.measure) in
    let first_promise = promised_after first_basis (g.T.Timetable.rule c.args.first.timetable) first_laws first_low (log_of c.args.first) c.args.first.question first_memory in
    let second_basis = basis_of g.U.Timetable.hops g.G.Tariff.model g.N.Measure.model c.args.second in
    let second_memory : Memory (FareState g.row.G-Ticket.Denot g.row.N-Weight.Denot) = lent c.args.other_store.now c.args.other_aboard.now c.args.other_out.now in
    let second_outcome = asked_after second_basis (log_of c.args.second) c.args.second.question second_memory in
    let second_low : (s : FareState g.row.G-Ticket.Denot g.row.N-Weight.Denot) → (fare_of second_basis).price s < price_bound = λ s. omega (arith, g.met.G.Tariff.priced c.args.second.tariff s.ticket) in
    let second_laws = fare_laws second_basis.tariff second_basis.measure second_basis.stops (g.met.G.LawfulTariff.lawful c.args.second.tariff) (g.met.N.LawfulMeasure.lawful c.args.second.measure) in
    let second_promise = promised_after second_basis (g.U.Timetable.rule c.args.second.timetable) second_laws second_low (log_of c.args.second) c.args.second.question second_memory in
    let answered = was_ok _ c.ask_after_in_parts.result c.map_err.result c.in_ok-bytes.field-0 c.map_err.ensures.cases c.in_ok-bytes.was in
    let first_answer = sym answered ∙ c.ask_after_in_parts.ensures.outcome.answer in
    let other_answered = was_ok _ c.ask_after_in_parts-2.result c.map_err-2.result c.in_ok-other_bytes.field-0 c.map_err-2.ensures.cases c.in_ok-other_bytes.was in
    let second_answer = sym other_answered ∙ c.ask_after_in_parts-2.ensures.outcome.answer in
    let one =
    let b = basis_of g.T.Timetable.hops g.F.Tariff.model g.M.Measure.model c.args.first in
    let q = c.args.first.question in
    let w = journeys_over b (hops_after b.hops (log_of c.args.first)) q in
    let out = c.ask_after_in_parts.new.out in
    promised_shows w q.destination q.rides (Ok c.in_ok-bytes.field-0) out.sheet.now out.legs.now
    (subst (λ r. Promised w q.destination q.rides r out.sheet.now out.legs.now) (was_ok _ c.ask_after_in_parts.result c.map_err.result c.in_ok-bytes.field-0 c.map_err.ensures.cases c.in_ok-bytes.was) c.ask_after_in_parts.ensures.promise.shown) in
    let two =
    let b = basis_of g.U.Timetable.hops g.G.Tariff.model g.N.Measure.model c.args.second in
    let q = c.args.second.question in
    let w = journeys_over b (hops_after b.hops (log_of c.args.second)) q in
    let out = c.ask_after_in_parts-2.new.out in
    promised_shows w q.destination q.rides (Ok c.in_ok-other_bytes.field-0) out.sheet.now out.legs.now
    (subst (λ r. Promised w q.destination q.rides r out.sheet.now out.legs.now) (was_ok _ c.ask_after_in_parts-2.result c.map_err-2.result c.in_ok-other_bytes.field-0 c.map_err-2.ensures.cases c.in_ok-other_bytes.was) c.ask_after_in_parts-2.ensures.promise.shown) in
    record {
      answer = compared_ok c.in_ok-bytes.field-0 c.in_ok-other_bytes.field-0 c.ask_after_in_parts.new.out.sheet.now c.ask_after_in_parts-2.new.out.sheet.now first_outcome.answer second_outcome.answer first_outcome.left.sheet second_outcome.left.sheet c.is_same_sheet.result
          first_answer c.ask_after_in_parts.ensures.outcome.sheet second_answer c.ask_after_in_parts-2.ensures.outcome.sheet c.is_same_sheet.ensures;
      same_offers = same_sheets one two c.is_same_sheet.result c.is_same_sheet.ensures;
      first_left = left_is first_outcome c.ask_after_in_parts.result (lent c.ask_after_in_parts.new.store c.ask_after_in_parts.new.aboard c.ask_after_in_parts.new.out) c.ask_after_in_parts.ensures.outcome;
      second_left = left_is second_outcome c.ask_after_in_parts-2.result (lent c.ask_after_in_parts-2.new.store c.ask_after_in_parts-2.new.aboard c.ask_after_in_parts-2.new.out) c.ask_after_in_parts-2.ensures.outcome ∙ ap (λ r. left_of_second r second_memory second_outcome) first_answer;
      first_promise = first_promise;
      second_promise = second_promise;
    }
