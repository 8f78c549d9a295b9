-- All that is promised of a question holds of the defined outcome, and so of a call that ends so.
use Rattle.std.proofs.Common.{◌≡◌, ◌<◌, Bool, true, false, cond, ltb, List, length, Some, None, Ok, Err, Option, Result, sym, refl, ap, ◌∙◌, subst, take}
use Rattle.timetable.specs.declared.hops.Hop.{Hop}
use Rattle.timetable.specs.Rule.{keeps}
use Rattle.journeys.specs.declared.full.Full.TheVariants.{Store, Aboard}
use Rattle.journeys.specs.declared.network.Footpath.{Footpath}
use Rattle.journeys.specs.declared.network.Stop.{Stop}
use Rattle.journeys.specs.declared.question.Question.{Question as Asked}
use Rattle.journeys.specs.Fare.{FareModel, FareLaws}
use Rattle.journeys.specs.Journey.{Setup}
use Rattle.journeys.specs.Leading.{LabelsAreReached}
use Rattle.journeys.specs.Runs.{Run, on, ended, overlay}
use Rattle.journeys.specs.Scan.{Stage, scan_for}
use Rattle.journeys.specs.Selection.{best_offers, price_bound}
use Rattle.journeys.proofs.Sound.{labels_reached}
use Rattle.scan.specs.Chains.{linked, labels_in}
use Rattle.scan.proofs.Chains.{length_linked, labels_linked}
use Rattle.scan.proofs.Loops.{take_overlay}
use Rattle.sheet.specs.Rows.{most_rows}
use Rattle.planner.specs.declared.answer.Answer.{Answer}
use Rattle.planner.specs.declared.refusal.Refusal.{Refusal}
use Rattle.planner.specs.declared.refusal.Refusal.TheVariants.{ManyOffers}
use Rattle.planner.specs.Asking.{LeavesLabels, Promise}
use Rattle.planner.specs.Limits.{fault_of}
use Rattle.planner.specs.Outcome.{Memory, Outcome, Leaves, asked, scanned, answered, counted, printed, refused, used, unless}
use Rattle.planner.specs.Promise.{setup_of, Promised}
use Rattle.planner.proofs.Accepting.{accepted_where}
use Rattle.planner.proofs.Ending.{cause_told}
use Rattle.planner.proofs.Faulty.{fault_early}
use Rattle.planner.proofs.Promises.{promise_kept}
use Rattle.planner.proofs.Settled.{limits, timely, store_is}

module _ {S : Type 0} (f : FareModel S) (hops : List Hop) (stops : List Stop) (paths : List Footpath) (q : Asked) (m : Memory S) (rule : keeps hops ≡ true) where
  abbrev w : Setup S
  w = setup_of f hops paths q

  abbrev fault : Option Refusal
  fault = fault_of q stops paths hops (length m.sheet) (length m.legs)

  abbrev run : Run (Stage S)
  run = scan_for f hops paths q m.labels m.aboard

  -- the labels that a stage counts as written are its store
  written_store : (s : Stage S) → labels_in (take (length s.store) (overlay (linked s.store) m.labels)) ≡ s.store
  written_store s = ap labels_in (take_overlay (linked s.store) m.labels (length s.store) (sym (length_linked 0 s.store))) ∙ labels_linked 0 s.store

  abbrev Kept : Outcome S → Type 0
  Kept o = LeavesLabels w q.rides o.answer o.left

  answered_labels : (s : Stage S) → LabelsAreReached w q.rides s.store → Kept (answered f q.destination m s)
  answered_labels s r = go (ltb most_rows (length (best_offers f q.destination s.store)))
    where
      reached : LabelsAreReached w q.rides (labels_in (take (length s.store) (overlay (linked s.store) m.labels)))
      reached = subst (LabelsAreReached w q.rides) (sym (written_store s)) r

      go : (b : Bool) → Kept (cond b (refused (ManyOffers (length (best_offers f q.destination s.store))) (used (length s.store) s m)) (record { answer = Ok (counted f q.destination s); left = printed f q.destination s m }))
      go true = reached
      go false = (refl, reached)

  scanned_labels : ((s : Stage S) → run ≡ on s → LabelsAreReached w q.rides s.store) → Kept (scanned f q.destination m run)
  scanned_labels h = go run h
    where
      go : (r : Run (Stage S)) → ((s : Stage S) → r ≡ on s → LabelsAreReached w q.rides s.store) → Kept (scanned f q.destination m r)
      go (on s) h = answered_labels s (h s refl)
      go (ended Store s) h = refl
      go (ended (Aboard hop) s) h = refl

  asked_labels : Kept (asked f hops stops paths q m)
  asked_labels = go fault refl
    where
      go : (o : Option Refusal) → fault ≡ o → Kept (unless o m (scanned f q.destination m run))
      go (Some e) x = fault_early (λ e. LeavesLabels w q.rides (Err e) m) q stops paths hops (length m.sheet) (length m.legs) (λ field. tt) (λ list place. tt) (λ output. tt) e x
      go None x =
          let lim = limits q stops paths hops (length m.sheet) (length m.legs) x in
          scanned_labels (λ s e. subst (LabelsAreReached w q.rides) (sym (store_is f q stops paths hops (length m.sheet) (length m.legs) rule lim m.labels m.aboard s e))
          (labels_reached w (timely f q stops paths hops (length m.sheet) (length m.legs) rule lim) q.rides))

  module _ (laws : FareLaws f) (low : (s : S) → f.price s < price_bound) where
    asked_shown : Promised w q.destination q.rides (asked f hops stops paths q m).answer (asked f hops stops paths q m).left.sheet (asked f hops stops paths q m).left.legs
    asked_shown = go fault refl
      where
        go : (o : Option Refusal) → fault ≡ o → Promised w q.destination q.rides (unless o m (scanned f q.destination m run)).answer (unless o m (scanned f q.destination m run)).left.sheet (unless o m (scanned f q.destination m run)).left.legs
        go (Some e) x = tt
        go None x = promise_kept f laws low q stops paths hops (length m.sheet) (length m.legs) rule (limits q stops paths hops (length m.sheet) (length m.legs) x) m

    -- the defined outcome keeps what is promised
    pub asked_kept : Promise f hops stops paths q m (asked f hops stops paths q m).answer (asked f hops stops paths q m).left
    asked_kept = record { accepted = accepted_where f hops stops paths q m laws low rule; cause = cause_told f hops stops paths q m laws low rule; shown = asked_shown; labels = asked_labels }

    -- and so does a call that ends so
    pub ends_kept : (r : Result Answer Refusal) (n : Memory S) → Leaves (asked f hops stops paths q m) r n.labels n.written n.aboard n.sheet n.legs → Promise f hops stops paths q m r n
    ends_kept r n e =
        let is : n ≡ (asked f hops stops paths q m).left = λ v. record { labels = e.labels v; written = e.written v; aboard = e.aboard v; sheet = e.sheet v; legs = e.legs v } in
        subst (λ (a : Result Answer Refusal). Promise f hops stops paths q m a n) (sym e.answer) (subst (λ (k : Memory S). Promise f hops stops paths q m (asked f hops stops paths q m).answer k) (sym is) asked_kept)
