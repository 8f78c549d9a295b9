use Rattle.std.specs.Prelude.{nat_lt}
use Rattle.std.proofs.Common.{length, Ok, Err, sym, subst, ap, ◌∙◌, arith}
use Rattle.std.proofs.lemmas.Bool.{cond-true, cond-false, lt-ltb, le-ltb}
use Rattle.short_list.specs.Items.{items}
use Rattle.journeys.specs.Selection.{best_offers}
use Rattle.planner.specs.declared.refusal.Refusal.TheVariants.{ManyOffers}
use Rattle.scan.specs.Chains.{labels_in}
use Rattle.planner.proofs.Picking.{below, below_all, pick_below, pick_step, pick_end, Selected, selected_none, selected_more, selected_count, selected_all}
use Rattle.planner.proofs.selection.select.Goals as goal

pub loop-offer-init : goal.loop-offer-init
loop-offer-init g c =
    let f = g.F.Fare.model c.args.fare.now in
    let whole = best_offers f c.args.destination (labels_in c.args.labels.now) in
    (subst (λ l. Selected 32 whole l 0 (items c.empty-offers.result)) (below_all f c.args.destination (labels_in c.args.labels.now)) (selected_none 32 whole (items c.empty-offers.result) c.empty-offers.ensures), omega arith)

pub loop-offer-smaller : goal.loop-offer-smaller
loop-offer-smaller g c = pick_below (g.F.Fare.model c.args.fare.now) c.args.destination (labels_in c.args.labels.now) c.loop-offer.bound c.in-Some.offer (sym c.in-Some.ensures)

pub loop-offer-preserved : goal.loop-offer-preserved
loop-offer-preserved g c =
    let f = g.F.Fare.model c.args.fare.now in
    let ls = labels_in c.args.labels.now in
    let dest = c.args.destination in
    let e = sym c.in-Some.ensures in (
      selected_more 32 (best_offers f dest ls) (below f dest ls c.loop-offer.bound) c.in-Some.offer (below f dest ls c.in-Some.offer.price) c.loop-offer.count (items c.loop-offer.offers) (items c.push.new.self)
          c.loop-offer.invariant.0 (pick_step f dest ls c.loop-offer.bound c.in-Some.offer e) c.push.ensures.items,
      omega (arith, c.loop-offer.invariant.1, pick_below f dest ls c.loop-offer.bound c.in-Some.offer e),
    )

pub returns-then-count-gt-MOST_ROWS : goal.returns-then-count-gt-MOST_ROWS
returns-then-count-gt-MOST_ROWS g c =
    let f = g.F.Fare.model c.args.fare.now in
    let best = best_offers f c.args.destination (labels_in c.args.labels.now) in
    let n = selected_count 32 best (below f c.args.destination (labels_in c.args.labels.now) c.loop-offer.bound) c.loop-offer.count (items c.loop-offer.offers) c.loop-offer.invariant.0
    (pick_end f c.args.destination (labels_in c.args.labels.now) c.loop-offer.bound (sym c.in_default.ensures)) in
    ap (λ k. Err (ManyOffers k)) n ∙ sym (cond-true (nat_lt 32 (length best)) _ _ (lt-ltb 32 (length best) (omega arith)))

pub returns : goal.returns
returns g c =
    let f = g.F.Fare.model c.args.fare.now in
    let best = best_offers f c.args.destination (labels_in c.args.labels.now) in
    let left = below f c.args.destination (labels_in c.args.labels.now) c.loop-offer.bound in
    let end = pick_end f c.args.destination (labels_in c.args.labels.now) c.loop-offer.bound (sym c.in_default.ensures) in
    let n = selected_count 32 best left c.loop-offer.count (items c.loop-offer.offers) c.loop-offer.invariant.0 end in
    ap Ok (selected_all 32 best left c.loop-offer.count (items c.loop-offer.offers) c.loop-offer.invariant.0 end c.if-count-gt-MOST_ROWS.false)
    ∙ sym (cond-false (nat_lt 32 (length best)) _ _ (le-ltb 32 (length best) (omega arith)))
