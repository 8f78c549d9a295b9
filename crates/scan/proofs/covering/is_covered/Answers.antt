use Rattle.std.proofs.Common.{◌<◌, length, sym, ◌∙◌, subst}
use Rattle.journeys.specs.Labels.{covers}
use Rattle.scan.specs.Chains.{slot}
use Rattle.scan.specs.Stores.{labels_of}
use Rattle.scan.proofs.Chains.{stop_of}
use Rattle.scan.proofs.Slots.{covers_none}
use Rattle.scan.proofs.Walks.{remaining, Seeking, seek, seeks_on, nearer}
use Rattle.scan.proofs.covering.is_covered.Goals as goal

pub loop-at-init : goal.loop-at-init
loop-at-init g c =
    let f = g.F.Fare.model c.args.fare.now in
    let to = c.args.candidate.now in
    let ls = labels_of c.args.labels.now in
    subst (Seeking stop_of (slot to.stop) (λ x. covers f x to) (covers_none f to) ls) (sym c.first_at-at.ensures) (seek stop_of (slot to.stop) (λ x. covers f x to) (covers_none f to) ls)

pub loop-at-smaller : goal.loop-at-smaller
loop-at-smaller g c =
    let f = g.F.Fare.model c.args.fare.now in
    let to = c.args.candidate.now in
    let ls = labels_of c.args.labels.now in
    let at = subst (Seeking stop_of (slot to.stop) (λ x. covers f x to) (covers_none f to) ls) c.in-Some.is c.loop-at.invariant in
    subst (λ o. remaining (length ls) c.place-at.result < remaining (length ls) o) (sym c.in-Some.is)
    (nearer stop_of (slot to.stop) ls c.in-Some.place (slot c.label-stored.result.now.label.stop) at.inside.1 c.place-at.result (c.place-at.ensures ∙ c.label-stored.ensures.next))

pub loop-at-preserved : goal.loop-at-preserved
loop-at-preserved g c =
    let f = g.F.Fare.model c.args.fare.now in
    let to = c.args.candidate.now in
    let ls = labels_of c.args.labels.now in
    let at = subst (Seeking stop_of (slot to.stop) (λ x. covers f x to) (covers_none f to) ls) c.in-Some.is c.loop-at.invariant in
    seeks_on stop_of (slot to.stop) (λ x. covers f x to) (covers_none f to) ls c.in-Some.place c.label-stored.result.now.label c.place-at.result at c.label-stored.ensures.here
    (sym c.label_covers.ensures ∙ c.if-label_covers.false) (c.place-at.ensures ∙ c.label-stored.ensures.next)
