-- The sheet and the legs of an answered question show every connection worth choosing, and nothing else.
use Rattle.std.proofs.Common.{◌≡◌, ℕ, suc, ◌<◌, ◌≤◌, true, ltb, List, [], ◌∷◌, ◌++◌, map, length, take, Ok, sym, refl, ap, ◌∙◌, subst, ap₂, inl, inr, arith, lit<, length-append}
use lib.ListN.{length-map}
use Rattle.std.proofs.lemmas.Bool.{cond-true, cond-false, cases_lt, lt-ltb, le-ltb}
use Rattle.timetable.specs.declared.hops.Hop.{Hop}
use Rattle.timetable.specs.Rule.{keeps}
use Rattle.journeys.specs.declared.best_offer.BestOffer.{BestOffer}
use Rattle.journeys.specs.declared.label.Label.{Label}
use Rattle.journeys.specs.declared.leg.Leg.{Leg as SheetLeg}
use Rattle.journeys.specs.declared.network.Footpath.{Footpath}
use Rattle.journeys.specs.declared.network.Stop.{Stop}
use Rattle.journeys.specs.declared.question.Question.{Question as Asked}
use Rattle.journeys.specs.Answers.{Answers, Handed}
use Rattle.journeys.specs.Endless.{scan∞}
use Rattle.journeys.specs.Fare.{FareModel, FareLaws}
use Rattle.journeys.specs.Journey.{Setup, last}
use Rattle.journeys.specs.Offers.{Offer, offer_of, AtMost, Best}
use Rattle.journeys.specs.Runs.{Run, on, ended}
use Rattle.journeys.specs.Scan.{Stage, scan_for}
use Rattle.journeys.specs.Selection.{best_offers, price_bound, offered}
use Rattle.journeys.specs.Traces.{legs_of, spelled}
use Rattle.journeys.proofs.Best.{answers}
use Rattle.journeys.proofs.Lists.{each_map, some_map, some_out, some_each}
use Rattle.journeys.specs.Lists.{Somewhere}
use Rattle.sheet.specs.declared.rows.Row.{Row}
use Rattle.scan.proofs.Loops.{take_overlay}
use Rattle.sheet.specs.Format.{encode}
use Rattle.sheet.specs.Rows.{most_rows, Good}
use Rattle.planner.specs.declared.answer.Answer.{Answer}
use Rattle.planner.specs.Handout.{row_of, legs_from}
use Rattle.planner.specs.Outcome.{Memory, scanned, answered, counted, printed, refused, used}
use Rattle.planner.specs.declared.refusal.Refusal.TheVariants.{ManyOffers}
use Rattle.planner.specs.Comparing.{In, offer_of_row}
use Rattle.planner.specs.Promise.{setup_of, Connection, offers, spelled_out, HandedOut, Shows, Promised, BestOffersAre}
use Rattle.planner.proofs.SameSheets.{same_rows}
use Rattle.planner.proofs.Settled.{Limits, timely, store_is, good_rows, rows_order}

module _ {S : Type 0} (ls : List (Label S)) where
  -- an offer, with the legs to its label
  abbrev pub connection : BestOffer → Connection
  connection o = record { row = row_of o; legs = legs_of ls o.label }

  connected_rows : (os : List BestOffer) → map (λ c. c.row) (map connection os) ≡ map row_of os
  connected_rows [] = refl
  connected_rows (o ∷ os) = ap (λ l. row_of o ∷ l) (connected_rows os)

  connected_legs : (os : List BestOffer) (n : ℕ) → spelled_out n (map connection os) ≡ legs_from ls n os
  connected_legs [] n = refl
  connected_legs (o ∷ os) n = ap (λ l. map (spelled n) (legs_of ls o.label) ++ l) (connected_legs os (suc n))

some_row : (os : List BestOffer) (r : Row) → In r (map row_of os) → Somewhere (λ o. row_of o ≡ r) os
some_row [] r i = absurd i
some_row (o ∷ os) r (inl e) = inl e
some_row (o ∷ os) r (inr i) = inr (some_row os r i)

row_is : (a b : Row) → offer_of_row a ≡ offer_of_row b → a ≡ b
row_is a b e = ap₂ {C = Row} (λ t p. record { arrival = t; price = p }) (ap (λ (o : Offer). o.arrival) e) (ap (λ (o : Offer). o.price) e)

-- there is one number of best offers
pub one_count : {S : Type 0} (w : Setup S) (dest limit n m : ℕ) → BestOffersAre w dest limit n → BestOffersAre w dest limit m → n ≡ m
one_count w dest limit n m a b = sym a.count ∙ ap length (same_rows a.rows b.rows a.order b.order (λ r i. b.whole r (a.sound r i)) (λ r i. a.whole r (b.sound r i))) ∙ b.count

-- the rows of a store that answer a question are what its sheet shows
shown : {S : Type 0} (w : Setup S) (dest limit : ℕ) (ls : List (Label S)) (os : List BestOffer) → Answers w dest limit os (λ r. legs_of ls r.label) → Good (map row_of os)
    → (answer : Answer) (bytes : List ℕ) (walked : List SheetLeg) → length os ≡ answer.rows → answer.bytes ≤ length bytes → answer.legs ≤ length walked → take answer.bytes bytes ≡ encode (map row_of os) → take answer.legs walked ≡ legs_from ls 0 os
    → Shows w dest limit answer bytes walked
shown w dest limit ls os a good answer bytes walked n x y b l = record {
  connections = map (connection ls) os;
  rows = length-map os (connection ls) ∙ n;
  bytes_fit = x;
  legs_fit = y;
  sheet = b ∙ ap encode (sym (connected_rows ls os));
  legs = l ∙ sym (connected_legs ls os 0);
  good = subst Good (sym (connected_rows ls os)) good;
  handed = each_map (λ r. Handed w dest limit r (legs_of ls r.label)) (HandedOut w dest limit) (connection ls) (λ r h. record { such = h.0; offered = h.1 }) os a.handed;
  best = each_map (λ r. Best w dest limit (offered r)) (λ c. Best w dest limit (offers c)) (connection ls) (λ r h. h) os a.best;
  all = λ o h. some_map (λ r. offered r ≡ o) (λ c. offers c ≡ o) (connection ls) (λ r e. e) os (a.all o h);
  met = λ legs h. some_map (λ r. AtMost (offered r) (offer_of w (last w legs))) (λ c. AtMost (offers c) (offer_of w (last w legs))) (connection ls) (λ r e. e) os (a.met legs h);
}

module _ {S : Type 0} (f : FareModel S) (laws : FareLaws f) (low : (s : S) → f.price s < price_bound) (q : Asked) (stops : List Stop) (paths : List Footpath) (hops : List Hop) (bytes legs : ℕ)
    (rule : keeps hops ≡ true) (lim : Limits q stops paths hops bytes legs) where
  abbrev w : Setup S
  w = setup_of f hops paths q

  best_answer : Answers w q.destination q.rides (best_offers f q.destination (scan∞ w q.rides)) (λ r. legs_of (scan∞ w q.rides) r.label)
  unfolding best_offers
  best_answer = answers w (timely f q stops paths hops bytes legs rule lim) laws q.destination q.rides price_bound (lit< tt) low

  -- so many best offers there are as the selection finds
  pub best_counted : BestOffersAre w q.destination q.rides (length (best_offers f q.destination (scan∞ w q.rides)))
  best_counted =
      let os = best_offers f q.destination (scan∞ w q.rides) in
      record {
        rows = map row_of os;
        count = length-map os row_of;
        order = rows_order f q stops paths hops bytes legs rule lim os best_answer.ordered;
        sound = λ r i.
            let x = some_out (λ o. Best w q.destination q.rides (offered o) × (row_of o ≡ r)) os (some_each (λ o. Best w q.destination q.rides (offered o)) (λ o. row_of o ≡ r) os best_answer.best (some_row os r i)) in
            subst (λ (z : Row). Best w q.destination q.rides (offer_of_row z)) x.1.1 x.1.0;
        whole = λ r b. some_map (λ o. offered o ≡ offer_of_row r) (λ x. x ≡ r) row_of (λ o e. row_is (row_of o) r e) os (best_answer.all (offer_of_row r) b);
      }

  -- a scan that has come to its end
  at_the_end : (m : Memory S) (s : Stage S) → s.store ≡ scan∞ w q.rides → Promised w q.destination q.rides (answered f q.destination m s).answer (answered f q.destination m s).left.sheet (answered f q.destination m s).left.legs
  at_the_end m s e =
      let os = best_offers f q.destination s.store in
      elim (cases_lt 32 (length os)) [
        | inl h ↦ subst (λ o. Promised w q.destination q.rides o.answer o.left.sheet o.left.legs) (sym (cond-true (ltb most_rows (length os)) (refused (ManyOffers (length os)) (used (length s.store) s m)) (record { answer = Ok (counted f q.destination s); left = printed f q.destination s m }) (lt-ltb most_rows (length os) h))) tt
        | inr h ↦ subst (λ o. Promised w q.destination q.rides o.answer o.left.sheet o.left.legs) (sym (cond-false (ltb most_rows (length os)) (refused (ManyOffers (length os)) (used (length s.store) s m)) (record { answer = Ok (counted f q.destination s); left = printed f q.destination s m }) (le-ltb most_rows (length os) h)))
            (shown w q.destination q.rides s.store os (subst (λ ls. Answers w q.destination q.rides (best_offers f q.destination ls) (λ r. legs_of ls r.label)) (sym e) best_answer)
            (subst (λ ls. length (best_offers f q.destination ls) ≤ 32 → Good (map row_of (best_offers f q.destination ls))) (sym e) (good_rows f q stops paths hops bytes legs rule lim) h)
            (counted f q.destination s) (printed f q.destination s m).sheet (printed f q.destination s m).legs refl (simp length-append (omega arith)) (simp length-append (omega arith))
            (take_overlay (encode (map row_of os)) m.sheet (length (encode (map row_of os))) refl) (take_overlay (legs_from s.store 0 os) m.legs (length (legs_from s.store 0 os)) refl))
      ]

  pub promise_kept : (m : Memory S) →
      Promised w q.destination q.rides (scanned f q.destination m (scan_for f hops paths q m.labels m.aboard)).answer
      (scanned f q.destination m (scan_for f hops paths q m.labels m.aboard)).left.sheet (scanned f q.destination m (scan_for f hops paths q m.labels m.aboard)).left.legs
  promise_kept m = go (scan_for f hops paths q m.labels m.aboard) (λ s e. store_is f q stops paths hops bytes legs rule lim m.labels m.aboard s e)
    where
      go : (r : Run (Stage S)) → ((s : Stage S) → r ≡ on s → s.store ≡ scan∞ w q.rides) → Promised w q.destination q.rides (scanned f q.destination m r).answer (scanned f q.destination m r).left.sheet (scanned f q.destination m r).left.legs
      go (on s) h = at_the_end m s (h s refl)
      go (ended full s) h = tt
