use Rattle.std.proofs.Common.{None, sym, ap, ◌∙◌, arith}
use lib.ListN.{length-map}
use Rattle.std.proofs.lemmas.List.{take_all}
use Rattle.journeys.specs.Lists.{foldi}
use Rattle.journeys.specs.Selection.{picking_one, pick}
use Rattle.scan.specs.Chains.{labels_in}
use Rattle.scan.proofs.Chains.{label_read}
use Rattle.scan.proofs.Loops.{foldi_more}
use Rattle.planner.proofs.selection.pick.Goals as goal

pub loop-place-preserved : goal.loop-place-preserved
loop-place-preserved g c =
    let p = picking_one (g.F.Fare.model c.args.fare.now) c.args.destination c.args.bound in
    let stored = c.index-labels-place.result in
    let read = label_read c.args.labels.now c.loop-place.place stored c.loop-place-test.true c.index-labels-place.is in
    c.pick_one-found.ensures ∙ ap (p c.loop-place.place stored.label) c.loop-place.invariant ∙ sym (foldi_more p (labels_in c.args.labels.now) c.loop-place.place stored.label None read.0 read.1)

pub returns : goal.returns
unfolding pick
returns g c =
    c.loop-place.invariant
    ∙ ap (λ l. foldi (picking_one (g.F.Fare.model c.args.fare.now) c.args.destination c.args.bound) 0 l None) (take_all c.loop-place.place (labels_in c.args.labels.now) (omega (arith, length-map c.args.labels.now (λ l. l.label), c.loop-place-test.false)))
