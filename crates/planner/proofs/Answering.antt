-- From what the scan and the selection tell to the outcome of the question.
use Rattle.std.specs.Prelude.{nat_lt}
use Rattle.std.proofs.Common.{◌≡◌, ℕ, ◌<◌, ◌≤◌, Bool, true, false, cond, ltb, List, length, take, Ok, Err, sym, refl, ap, ◌∙◌, subst, arith}
use Rattle.std.proofs.lemmas.Bool.{cond-true, cond-false, lt-ltb, le-ltb, ltb-true, ltb-false}
use Rattle.journeys.specs.declared.best_offer.BestOffer.{BestOffer}
use Rattle.journeys.specs.declared.full.Full.{Full}
use Rattle.journeys.specs.declared.full.Full.TheVariants.{Store, Aboard}
use Rattle.journeys.specs.declared.label.Passenger.{Passenger}
use Rattle.journeys.specs.declared.leg.Leg.{Leg}
use Rattle.journeys.specs.Fare.{FareModel}
use Rattle.journeys.specs.Runs.{Run, on, ended, overlay, result_of}
use Rattle.journeys.specs.Scan.{Room, Stage}
use Rattle.journeys.specs.Selection.{best_offers}
use Rattle.journeys.proofs.Filled.{Throughout, StoreFew, StoreFilled}
use Rattle.scan.specs.declared.stored_label.StoredLabel.{StoredLabel}
use Rattle.scan.specs.Chains.{linked}
use Rattle.scan.specs.Scanned.{told, used_after}
use Rattle.scan.proofs.Chains.{length_linked}
use Rattle.scan.proofs.Loops.{take_overlay}
use Rattle.sheet.specs.Rows.{most_rows}
use Rattle.planner.specs.declared.answer.Answer.{Answer}
use Rattle.planner.specs.declared.refusal.Refusal.{Refusal}
use Rattle.planner.specs.declared.refusal.Refusal.TheVariants.{StoreFull, ManyOffers}
use Rattle.planner.specs.Selecting.{selected}
use Rattle.planner.specs.Outcome.{Memory, Leaves, scanned, refusal_of_scan, counted, printed}

module _ {S : Type 0} (f : FareModel S) (dest : ℕ) (m : Memory S) where
  abbrev room : Room
  room = record { labels = length m.labels; aboard = length m.aboard }

  -- a full list has ended the scan
  pub ended_leaves : (r : Run (Stage S)) (full : Full) (n : ℕ) (labels : List (StoredLabel S)) (written : ℕ) (aboard : List (Passenger S)) → Throughout (StoreFew f room) (StoreFilled f room) r → Err full ≡ told r
      → labels ≡ overlay (linked (result_of r).store) m.labels → written ≡ used_after r → aboard ≡ (result_of r).places → n ≡ length m.labels
      → Leaves (scanned f dest m r) (Err (refusal_of_scan full n)) labels written aboard m.sheet m.legs
  ended_leaves (on s) full n labels written aboard t e a u b c = absurd (let z : ◌≡◌ {A = ℕ} 0 1 = cc in omega arith)
  ended_leaves (ended q s) full n labels written aboard t e a u b c = record {
    answer = ap (λ (k : Full). Err (refusal_of_scan k n)) (let z : full ≡ q = cc in z) ∙ ap Err (same q t.1);
    labels = a;
    written = u;
    aboard = b;
    sheet = refl;
    legs = refl;
  }
    where
      same : (k : Full) → (k ≡ Store → length s.store ≡ length m.labels) → refusal_of_scan k n ≡ refusal_of_scan k (length s.store)
      same Store h = ap StoreFull (c ∙ sym (h refl))
      same (Aboard hop) h = refl

  -- the scan has come to its end
  pub came_to : (r : Run (Stage S)) → Ok tt ≡ told r → (s : Stage S) × (r ≡ on s)
  came_to (on s) e = (s, refl)
  came_to (ended q s) e = absurd (let z : ◌≡◌ {A = ℕ} 0 1 = cc in omega arith)

  pub store_written : (r : Run (Stage S)) (s : Stage S) (used : ℕ) (labels : List (StoredLabel S)) → r ≡ on s → used ≡ used_after r → labels ≡ overlay (linked (result_of r).store) m.labels → take used labels ≡ linked s.store
  store_written r s used labels e u a =
      (λ v. take ((u ∙ ap used_after e) v) ((a ∙ ap (λ (z : Run (Stage S)). overlay (linked (result_of z).store) m.labels) e) v)) ∙ take_overlay (linked s.store) m.labels (length s.store) (sym (length_linked 0 s.store))

  -- more than 32 best offers
  pub many_leaves : (r : Run (Stage S)) (s : Stage S) (count : ℕ) (labels : List (StoredLabel S)) (written : ℕ) (aboard : List (Passenger S)) → r ≡ on s → count ≡ length (best_offers f dest s.store) → 32 < count
      → labels ≡ overlay (linked (result_of r).store) m.labels → written ≡ used_after r → aboard ≡ (result_of r).places
      → Leaves (scanned f dest m r) (Err (ManyOffers count)) labels written aboard m.sheet m.legs
  many_leaves r s count labels written aboard e c h a u b =
      subst (λ o. Leaves o (Err (ManyOffers count)) labels written aboard m.sheet m.legs) (sym (ap (scanned f dest m) e ∙ cond-true (ltb most_rows (length (best_offers f dest s.store))) _ _ (lt-ltb most_rows _ (omega arith))))
      (record { answer = ap (λ (n : ℕ). Err (ManyOffers n)) c; labels = a ∙ ap (λ (z : Run (Stage S)). overlay (linked (result_of z).store) m.labels) e; written = u ∙ ap used_after e; aboard = b ∙ ap (λ (z : Run (Stage S)). (result_of z).places) e; sheet = refl; legs = refl })

  -- at most 32 of them, which are written
  pub few_leaves : (r : Run (Stage S)) (s : Stage S) (answer : Answer) (labels : List (StoredLabel S)) (written : ℕ) (aboard : List (Passenger S)) (sheet : List ℕ) (legs : List Leg) → r ≡ on s → length (best_offers f dest s.store) ≤ 32
      → labels ≡ overlay (linked (result_of r).store) m.labels → written ≡ used_after r → aboard ≡ (result_of r).places
      → answer ≡ counted f dest s → sheet ≡ (printed f dest s m).sheet → legs ≡ (printed f dest s m).legs
      → Leaves (scanned f dest m r) (Ok answer) labels written aboard sheet legs
  few_leaves r s answer labels written aboard sheet legs e h a u b c d g =
      subst (λ o. Leaves o (Ok answer) labels written aboard sheet legs) (sym (ap (scanned f dest m) e ∙ cond-false (ltb most_rows (length (best_offers f dest s.store))) _ _ (le-ltb most_rows _ h)))
      (record { answer = ap Ok c; labels = a ∙ ap (λ (z : Run (Stage S)). overlay (linked (result_of z).store) m.labels) e; written = u ∙ ap used_after e; aboard = b ∙ ap (λ (z : Run (Stage S)). (result_of z).places) e; sheet = d; legs = g })

-- what the selection tells: at most 32 best offers, as they are, or how many there are
pub many_offers : (os : List BestOffer) (e : Refusal) → Err e ≡ selected os → (32 < length os) × (e ≡ ManyOffers (length os))
many_offers os e p = go (nat_lt 32 (length os)) refl p
  where
    go : (b : Bool) → nat_lt 32 (length os) ≡ b → Err e ≡ cond b (Err (ManyOffers (length os))) (Ok os) → (32 < length os) × (e ≡ ManyOffers (length os))
    go true q r = (ltb-true 32 (length os) q, (let z : e ≡ ManyOffers (length os) = cc in z))
    go false q r = absurd (let z : ◌≡◌ {A = ℕ} 0 1 = cc in omega arith)

pub few_offers : (os taken : List BestOffer) → Ok taken ≡ selected os → (length os ≤ 32) × (taken ≡ os)
few_offers os taken p = go (nat_lt 32 (length os)) refl p
  where
    go : (b : Bool) → nat_lt 32 (length os) ≡ b → Ok taken ≡ cond b (Err (ManyOffers (length os))) (Ok os) → (length os ≤ 32) × (taken ≡ os)
    go true q r = absurd (let z : ◌≡◌ {A = ℕ} 0 1 = cc in omega arith)
    go false q r = (ltb-false 32 (length os) q, (let z : taken ≡ os = cc in z))
