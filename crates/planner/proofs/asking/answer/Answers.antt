use Rattle.std.proofs.Common.{rules, ◌≡◌, map, length, Err, sym, ap, ◌∙◌, subst, arith}
use Rattle.short_list.specs.Items.{items}
use Rattle.journeys.specs.Labels.{label_at_origin}
use Rattle.journeys.specs.Scan.{scan_for}
use Rattle.journeys.specs.Selection.{best_offers}
use Rattle.journeys.proofs.Filled.{scan_filled}
use Rattle.sheet.specs.Format.{encode}
use Rattle.sheet.specs.Outcome.{laid}
use Rattle.scan.specs.Chains.{labels_in}
use Rattle.scan.proofs.Chains.{labels_linked}
use Rattle.planner.specs.Handout.{row_of, legs_from}
use Rattle.planner.specs.Lent.{lent}
use Rattle.planner.specs.Outcome.{Memory, Leaves, scanned, refusal_of_scan}
use Rattle.planner.proofs.Answering.{ended_leaves, came_to, store_written, many_leaves, few_leaves, many_offers, few_offers}
use Rattle.planner.proofs.Faulty.{err_is, was_ok, was_err}
use Rattle.planner.proofs.Settled.{limits, store_is, written_backward, printable}
use Rattle.planner.proofs.asking.answer.Goals as goal

pub returns-in_err-map_err-clause-outcome : goal.returns-in_err-map_err-clause-outcome
returns-in_err-map_err-clause-outcome g c =
    let f = g.F.Fare.model c.args.fare.now in
    let hops = g.T.Timetable.hops c.args.timetable.now in
    let q = c.args.question.now in
    let paths = c.args.network.now.paths.now in
    let m : Memory g.row.F-State.Denot = lent c.args.store.now c.args.aboard.now c.args.out.now in
    let r = scan_for f hops paths q m.labels m.aboard in
    let filled = scan_filled f (record { labels = length m.labels; aboard = length m.aboard }) hops paths (label_at_origin f q.origin q.departure) m.aboard q.rides in
    let k = was_err _ c.scan.result c.map_err.result c.in_err-map_err.field-0.0 c.map_err.ensures.cases c.in_err-map_err.was in
    let l = ended_leaves f q.destination m r k.0 c.room-room.result c.scan.new.self.labels.now c.scan.new.self.used c.scan.new.aboard filled (sym k.1.0 ∙ c.scan.ensures.answer) c.scan.ensures.labels c.scan.ensures.used c.scan.ensures.aboard c.room-room.ensures in
    let why : c.in_err-map_err.field-0.0 ≡ refusal_of_scan k.0 c.room-room.result = search (k.1.1, rules) in
    record { answer = err_is c.from_residual.result c.in_err-map_err.field-0.0 c.from_residual.ensures.1 ∙ ap Err why ∙ l.answer; labels = l.labels; written = l.written; aboard = l.aboard; sheet = l.sheet; legs = l.legs }

pub returns-in_err-offers-clause-outcome : goal.returns-in_err-offers-clause-outcome
returns-in_err-offers-clause-outcome g c =
    let f = g.F.Fare.model c.args.fare.now in
    let hops = g.T.Timetable.hops c.args.timetable.now in
    let q = c.args.question.now in
    let paths = c.args.network.now.paths.now in
    let m : Memory g.row.F-State.Denot = lent c.args.store.now c.args.aboard.now c.args.out.now in
    let r = scan_for f hops paths q m.labels m.aboard in
    let k = came_to f q.destination m r (sym (was_ok _ c.scan.result c.map_err.result tt c.map_err.ensures.cases c.in_ok-map_err.was) ∙ c.scan.ensures.answer) in
    let s = k.0 in
    let found : labels_in c.written.result.now ≡ s.store = ap labels_in (c.written.ensures ∙ store_written f q.destination m r s c.scan.new.self.used c.scan.new.self.labels.now k.1 c.scan.ensures.used c.scan.ensures.labels) ∙ labels_linked 0 s.store in
    let best = best_offers f q.destination (labels_in c.written.result.now) in
    let many = many_offers best c.in_err-offers.field-0.0 c.in_err-offers.ensures in
    let told = err_is c.from_residual-in_err-offers.result c.in_err-offers.field-0.0 c.from_residual-in_err-offers.ensures.1 ∙ ap Err many.1 in
    subst (λ a. Leaves (scanned f q.destination m r) a c.scan.new.self.labels.now c.scan.new.self.used c.scan.new.aboard m.sheet m.legs) (sym told)
    (many_leaves f q.destination m r s (length best) c.scan.new.self.labels.now c.scan.new.self.used c.scan.new.aboard k.1 (ap (λ ls. length (best_offers f q.destination ls)) found) many.0 c.scan.ensures.labels c.scan.ensures.used c.scan.ensures.aboard)

pub invariant_of-traces : goal.invariant_of-traces
invariant_of-traces g c =
    let f = g.F.Fare.model c.args.fare.now in
    let hops = g.T.Timetable.hops c.args.timetable.now in
    let q = c.args.question.now in
    let paths = c.args.network.now.paths.now in
    let m : Memory g.row.F-State.Denot = lent c.args.store.now c.args.aboard.now c.args.out.now in
    let k = came_to f q.destination m (scan_for f hops paths q m.labels m.aboard) (sym (was_ok _ c.scan.result c.map_err.result tt c.map_err.ensures.cases c.in_ok-map_err.was) ∙ c.scan.ensures.answer) in
    let again : labels_in c.written-2.result.now ≡ k.0.store = ap labels_in (c.written-2.ensures ∙ store_written f q.destination m (scan_for f hops paths q m.labels m.aboard) k.0 c.scan.new.self.used c.scan.new.self.labels.now k.1 c.scan.ensures.used c.scan.ensures.labels) ∙ labels_linked 0 k.0.store in
    let lim = limits q c.args.network.now.stops.now paths hops (length m.sheet) (length m.legs) c.requires in
    let is = store_is f q c.args.network.now.stops.now paths hops (length m.sheet) (length m.legs) (g.T.Timetable.rule c.args.timetable.now) lim m.labels m.aboard k.0 k.1 in
    record { backward = written_backward f q c.args.network.now.stops.now paths hops (length m.sheet) (length m.legs) (g.T.Timetable.rule c.args.timetable.now) lim (labels_in c.written-2.result.now) (again ∙ is) }

pub print_offers-requires : goal.print_offers-requires
print_offers-requires g c =
    let f = g.F.Fare.model c.args.fare.now in
    let hops = g.T.Timetable.hops c.args.timetable.now in
    let q = c.args.question.now in
    let paths = c.args.network.now.paths.now in
    let m : Memory g.row.F-State.Denot = lent c.args.store.now c.args.aboard.now c.args.out.now in
    let r = scan_for f hops paths q m.labels m.aboard in
    let k = came_to f q.destination m r (sym (was_ok _ c.scan.result c.map_err.result tt c.map_err.ensures.cases c.in_ok-map_err.was) ∙ c.scan.ensures.answer) in
    let s = k.0 in
    let found : labels_in c.written.result.now ≡ s.store = ap labels_in (c.written.ensures ∙ store_written f q.destination m r s c.scan.new.self.used c.scan.new.self.labels.now k.1 c.scan.ensures.used c.scan.ensures.labels) ∙ labels_linked 0 s.store in
    let again : labels_in c.written-2.result.now ≡ s.store = ap labels_in (c.written-2.ensures ∙ store_written f q.destination m r s c.scan.new.self.used c.scan.new.self.labels.now k.1 c.scan.ensures.used c.scan.ensures.labels) ∙ labels_linked 0 s.store in
    let few = few_offers (best_offers f q.destination (labels_in c.written.result.now)) (items c.in_ok-offers.offers) c.in_ok-offers.ensures in
    let offers : items c.in_ok-offers.offers ≡ best_offers f q.destination (labels_in c.written-2.result.now) = few.1 ∙ ap (best_offers f q.destination) (found ∙ sym again) in
    let lim = limits q c.args.network.now.stops.now paths hops (length m.sheet) (length m.legs) c.requires in
    let is = store_is f q c.args.network.now.stops.now paths hops (length m.sheet) (length m.legs) (g.T.Timetable.rule c.args.timetable.now) lim m.labels m.aboard s k.1 in
    let p = printable f q c.args.network.now.stops.now paths hops (length m.sheet) (length m.legs) (g.T.Timetable.rule c.args.timetable.now) lim (labels_in c.written-2.result.now) (items c.in_ok-offers.offers) (again ∙ is) offers (omega (arith, few.0, ap length few.1)) in
    record { good = p.1; each = p.2; sheet_fits = p.3; legs_fit = p.4 }

pub returns-clause-outcome : goal.returns-clause-outcome
returns-clause-outcome g c =
    let f = g.F.Fare.model c.args.fare.now in
    let hops = g.T.Timetable.hops c.args.timetable.now in
    let q = c.args.question.now in
    let paths = c.args.network.now.paths.now in
    let m : Memory g.row.F-State.Denot = lent c.args.store.now c.args.aboard.now c.args.out.now in
    let r = scan_for f hops paths q m.labels m.aboard in
    let k = came_to f q.destination m r (sym (was_ok _ c.scan.result c.map_err.result tt c.map_err.ensures.cases c.in_ok-map_err.was) ∙ c.scan.ensures.answer) in
    let s = k.0 in
    let found : labels_in c.written.result.now ≡ s.store = ap labels_in (c.written.ensures ∙ store_written f q.destination m r s c.scan.new.self.used c.scan.new.self.labels.now k.1 c.scan.ensures.used c.scan.ensures.labels) ∙ labels_linked 0 s.store in
    let again : labels_in c.written-2.result.now ≡ s.store = ap labels_in (c.written-2.ensures ∙ store_written f q.destination m r s c.scan.new.self.used c.scan.new.self.labels.now k.1 c.scan.ensures.used c.scan.ensures.labels) ∙ labels_linked 0 s.store in
    let few = few_offers (best_offers f q.destination (labels_in c.written.result.now)) (items c.in_ok-offers.offers) c.in_ok-offers.ensures in
    let offers : items c.in_ok-offers.offers ≡ best_offers f q.destination (labels_in c.written-2.result.now) = few.1 ∙ ap (best_offers f q.destination) (found ∙ sym again) in
    let taken = offers ∙ ap (best_offers f q.destination) again in
    few_leaves f q.destination m r s c.print_offers.result c.scan.new.self.labels.now c.scan.new.self.used c.scan.new.aboard c.print_offers.new.out.sheet.now c.print_offers.new.out.legs.now k.1 (omega (arith, few.0, ap (λ ls. length (best_offers f q.destination ls)) found)) c.scan.ensures.labels c.scan.ensures.used c.scan.ensures.aboard
    (c.print_offers.ensures.answer ∙ (λ v. record { rows = length (taken v); labels = length (again v); bytes = length (encode (map row_of (taken v))); legs = length (legs_from (again v) 0 (taken v)) }))
    (c.print_offers.ensures.sheet ∙ ap (λ os. laid (encode (map row_of os)) m.sheet) taken)
    (c.print_offers.ensures.legs ∙ (λ v. laid (legs_from (again v) 0 (taken v)) m.legs))
