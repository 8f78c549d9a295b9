use Rattle.std.proofs.Common.{Ok, sym, ◌∙◌, subst}
use Rattle.journeys.specs.NetworkFare.{fare_over}
use Rattle.planner.specs.Lent.{lent}
use Rattle.planner.specs.Outcome.{asked_of}
use Rattle.planner.specs.Promise.{setup_of, Promised}
use Rattle.planner.specs.ShownOffers.{promised_shows}
use Rattle.planner.proofs.Faulty.{was_ok}
use Rattle.planner.proofs.SameSheets.{same_sheets, compared_ok}
use Rattle.planner.proofs.two_boards.compare_in_parts.Goals as goal

pub returns-clause-answer : goal.returns-clause-answer
returns-clause-answer g c =
    let one =
    asked_of (g.F.Tariff.model c.args.first.now.board.tariff.now) (g.M.Measure.model c.args.first.now.board.measure.now) (g.T.Timetable.hops c.args.first.now.board.timetable.now) c.args.first.now.network.stops.now c.args.first.now.network.paths.now c.args.first.now.question (lent c.args.store.now c.args.aboard.now c.args.out.now) in
    let two =
    asked_of (g.G.Tariff.model c.args.second.now.board.tariff.now) (g.N.Measure.model c.args.second.now.board.measure.now) (g.U.Timetable.hops c.args.second.now.board.timetable.now) c.args.second.now.network.stops.now c.args.second.now.network.paths.now c.args.second.now.question (lent c.args.other_store.now c.args.other_aboard.now c.args.other_out.now) in
    compared_ok c.in_ok-bytes.field-0 c.in_ok-other_bytes.field-0 c.ask_in_parts.new.out.sheet.now c.ask_in_parts-2.new.out.sheet.now one.answer two.answer one.left.sheet two.left.sheet c.is_same_sheet.result
    (sym (was_ok _ c.ask_in_parts.result c.map_err.result c.in_ok-bytes.field-0 c.map_err.ensures.cases c.in_ok-bytes.was) ∙ c.ask_in_parts.ensures.outcome.answer) c.ask_in_parts.ensures.outcome.sheet
    (sym (was_ok _ c.ask_in_parts-2.result c.map_err-2.result c.in_ok-other_bytes.field-0 c.map_err-2.ensures.cases c.in_ok-other_bytes.was) ∙ c.ask_in_parts-2.ensures.outcome.answer) c.ask_in_parts-2.ensures.outcome.sheet
    c.is_same_sheet.ensures

pub returns-clause-same_offers : goal.returns-clause-same_offers
returns-clause-same_offers g c =
    let one =
    let q = c.args.first.now.question in
    let w = setup_of (fare_over (g.F.Tariff.model c.args.first.now.board.tariff.now) (g.M.Measure.model c.args.first.now.board.measure.now) c.args.first.now.network.stops.now) (g.T.Timetable.hops c.args.first.now.board.timetable.now) c.args.first.now.network.paths.now q in
    let out = c.ask_in_parts.new.out in
    promised_shows w q.destination q.rides (Ok c.in_ok-bytes.field-0) out.sheet.now out.legs.now
    (subst (λ r. Promised w q.destination q.rides r out.sheet.now out.legs.now) (was_ok _ c.ask_in_parts.result c.map_err.result c.in_ok-bytes.field-0 c.map_err.ensures.cases c.in_ok-bytes.was) c.ask_in_parts.ensures.promise.shown) in
    let two =
    let q = c.args.second.now.question in
    let w = setup_of (fare_over (g.G.Tariff.model c.args.second.now.board.tariff.now) (g.N.Measure.model c.args.second.now.board.measure.now) c.args.second.now.network.stops.now) (g.U.Timetable.hops c.args.second.now.board.timetable.now) c.args.second.now.network.paths.now q in
    let out = c.ask_in_parts-2.new.out in
    promised_shows w q.destination q.rides (Ok c.in_ok-other_bytes.field-0) out.sheet.now out.legs.now
    (subst (λ r. Promised w q.destination q.rides r out.sheet.now out.legs.now) (was_ok _ c.ask_in_parts-2.result c.map_err-2.result c.in_ok-other_bytes.field-0 c.map_err-2.ensures.cases c.in_ok-other_bytes.was) c.ask_in_parts-2.ensures.promise.shown) in
    same_sheets one two c.is_same_sheet.result c.is_same_sheet.ensures
