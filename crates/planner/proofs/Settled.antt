-- A question without a fault: the limits that it keeps, and so what its scan finds fits the sheet and the legs.
use Rattle.std.proofs.Common.{◌≡◌, ℕ, zero, suc, ◌*◌, ◌<◌, ◌≤◌, true, List, [], ◌∷◌, map, length, get_or, Some, None, Option, sym, ap, ◌∙◌, subst, subst₂, inl, inr, arith, length-append}
use lib.ListN.{length-map, get_or-eq_default}
use Rattle.std.specs.List.{AllByRecursion}
use Rattle.std.proofs.lemmas.Option.{slice_get-get_or}
use Rattle.std.proofs.lemmas.Bool.{cases_lt, true≢false}
use Rattle.timetable.specs.declared.hops.Hop.{Hop}
use Rattle.timetable.specs.Rule.{keeps, Limits as HopLimits}
use Rattle.timetable.specs.RuleFacts.{rule_kept}
use Rattle.timetable.specs.Table.{count_of}
use Rattle.journeys.specs.declared.best_offer.BestOffer.{BestOffer}
use Rattle.journeys.specs.declared.label.Label.{Label}
use Rattle.journeys.specs.declared.label.Passenger.{Passenger}
use Rattle.journeys.specs.declared.network.Footpath.{Footpath}
use Rattle.journeys.specs.declared.network.Stop.{Stop}
use Rattle.journeys.specs.declared.question.Question.{Question as Asked}
use Rattle.journeys.specs.Answers.{Ordered, Handed}
use Rattle.journeys.specs.Endless.{scan∞, most_aboard∞}
use Rattle.journeys.specs.Fare.{FareModel}
use Rattle.journeys.specs.Journey.{Setup, hop_in, no_path, last}
use Rattle.journeys.specs.Lists.{Each}
use Rattle.journeys.specs.Scan.{no_hop, Stage, scan_for}
use Rattle.journeys.specs.Runs.{on}
use Rattle.journeys.specs.Selection.{picks, price_bound, best_offers, pick, and_cheaper}
use Rattle.journeys.specs.Traces.{legs_of, spelled}
use Rattle.journeys.proofs.Best.{If, OfStore, pick_in, best_rows, rows_each, rows_ordered, Unbeaten}
use Rattle.journeys.proofs.Lists.{each_imp, eachi_imp}
use Rattle.journeys.proofs.Sound.{Known, scan_sound}
use Rattle.journeys.proofs.Times.{Timely, journey_time, journey_legs}
use Rattle.journeys.proofs.Tracks.{Along, scan_along}
use Rattle.sheet.specs.Rows.{Good, InRange}
use Rattle.sheet.specs.Rows.{Ordered as RowsOrdered}
use Rattle.planner.specs.Acceptance.{PathOk}
use Rattle.planner.specs.Handout.{row_of, legs_from}
use Rattle.planner.specs.Limits.{fault_of}
use Rattle.planner.specs.Promise.{setup_of}
use Rattle.planner.specs.Tracing.{Backward}
use Rattle.planner.proofs.Askables.{askable}
use Rattle.planner.proofs.Handing.{each_get}

-- the limits of a question without a fault
pub record Limits (q : Asked) (stops : List Stop) (paths : List Footpath) (hops : List Hop) (bytes legs : ℕ) : Type 0 where
  pub departs : q.departure ≤ 172800
  pub rides : q.rides ≤ 8
  pub count : count_of hops ≡ length hops
  pub short : Each (λ p. p.seconds ≤ 3600) paths
  pub bytes_room : 225 ≤ bytes
  pub legs_room : 544 ≤ legs

pub limits : (q : Asked) (stops : List Stop) (paths : List Footpath) (hops : List Hop) (bytes legs : ℕ) → fault_of q stops paths hops bytes legs ≡ None → Limits q stops paths hops bytes legs
limits q stops paths hops bytes legs e =
    let a = askable q stops paths hops (record { labels = 0; aboard = 0; sheet = bytes; legs = legs }) e in
    record {
      departs = a.question.departure;
      rides = a.question.few_rides;
      count = (let z = a.question.few_hops in omega arith);
      short = each_imp (PathOk (length stops)) (λ x. x.seconds ≤ 3600) (λ x p. p.short) paths a.network.paths_fit.all;
      bytes_room = a.sheet_room;
      legs_room = a.legs_room;
    }

module _ {S : Type 0} (f : FareModel S) (q : Asked) (stops : List Stop) (paths : List Footpath) (hops : List Hop) (bytes legs : ℕ) (rule : keeps hops ≡ true) (lim : Limits q stops paths hops bytes legs) where
  abbrev w : Setup S
  w = setup_of f hops paths q

  limits_kept : (i : ℕ) → (hop_in w i).runs ≡ true → HopLimits (hop_in w i)
  limits_kept i r = elim (cases_lt i (length hops)) [
    | inl h ↦ (rule_kept hops rule).limits i (get_or hops i no_hop) (slice_get-get_or hops i no_hop h) r
    | inr h ↦ absurd (true≢false (sym r ∙ ap (λ (x : Hop). x.runs) (get_or-eq_default hops no_hop {n = i} h)))
  ]

  pub timely : Timely w
  timely = record {
    departs = lim.departs;
    short = λ i h. each_get (λ p. p.seconds ≤ 3600) paths lim.short i no_path h;
    kept = limits_kept;
  }

  -- where no list was full, the store is the endless scan's
  pub store_is : {X : Type 0} (labels : List X) (held : List (Passenger S)) (s : Stage S) → scan_for f hops paths q labels held ≡ on s → s.store ≡ scan∞ w q.rides
  store_is labels held s e = (subst (λ r. Along w (record { labels = length labels; aboard = length held }) r (scan∞ w q.rides) (most_aboard∞ w q.rides)) e (scan_along w (record { labels = length labels; aboard = length held }) lim.count held q.rides)).0

  abbrev st : List (Label S)
  st = scan∞ w q.rides

  abbrev offers : List BestOffer
  offers = best_offers f q.destination st

  pub backward : Backward st
  backward = eachi_imp (Known w timely st) _ (λ j l k. k.earlier) 0 st (scan_sound w timely q.rides)

  pub in_store : Each (λ o. o.label < length st) offers
  unfolding best_offers
  in_store = each_imp (λ o. (o.label < length st) × Unbeaten f q.destination st o) (λ o. o.label < length st) (λ o h. h.0) offers
      (rows_each f q.destination (Known w timely st) (λ o. o.label < length st) st (scan_sound w timely q.rides) (λ j l k _. k.is) price_bound price_bound)

  -- each row has a journey, which its legs spell out
  pub handed : Each (λ o. Handed w q.destination q.rides o (legs_of st o.label)) offers
  unfolding best_offers
  handed = each_imp (λ o. Handed w q.destination q.rides o (legs_of st o.label) × Unbeaten f q.destination st o) _ (λ o h. h.0) offers (best_rows w timely q.destination q.rides price_bound price_bound)

  few_legs : Each (λ o. length (legs_of st o.label) ≤ 17) offers
  few_legs = each_imp (λ o. Handed w q.destination q.rides o (legs_of st o.label)) _
      (λ o h. let n = journey_legs w (legs_of st o.label) h.0.journey in omega (arith, h.0.within, lim.rides)) offers handed

  legs_count : (os : List BestOffer) (row : ℕ) → Each (λ o. length (legs_of st o.label) ≤ 17) os → length (legs_from st row os) ≤ 17 * length os
  legs_count [] row e = omega arith
  legs_count (o ∷ os) row e =
      let a = length-append (map (spelled row) (legs_of st o.label)) (legs_from st (suc row) os) in
      let m = length-map (legs_of st o.label) (spelled row) in
      omega (arith, a, m, e.0, legs_count os (suc row) e.1)

  pub legs_fit : length offers ≤ 32 → length (legs_from st 0 offers) ≤ legs
  legs_fit h = omega (arith, legs_count offers 0 few_legs, lim.legs_room)

  prices_below : (ls : List (Label S)) (n bound : ℕ) → Each (λ o. o.price < bound) (picks f q.destination ls n bound)
  unfolding picks
  prices_below ls zero bound = tt
  prices_below ls (suc n) bound = go (pick f q.destination bound ls) (pick_in f q.destination bound ls) (prices_below ls n)
    where
      go : (o : Option BestOffer) → If (OfStore f q.destination ls bound) o → ((b : ℕ) → Each (λ o. o.price < b) (picks f q.destination ls n b)) → Each (λ o. o.price < bound) (and_cheaper o (picks f q.destination ls n))
      go None i more = tt
      go (Some r) i more = (i.0, each_imp (λ o. o.price < r.price) (λ o. o.price < bound) (λ o h. omega (arith, i.0)) (picks f q.destination ls n r.price) (more r.price))

  within_range : (os : List BestOffer) → Each (λ o. Handed w q.destination q.rides o (legs_of st o.label)) os → Each (λ o. o.price < price_bound) os → AllByRecursion InRange (map row_of os)
  within_range [] a b = tt
  within_range (o ∷ os) a b =
      let t = journey_time w timely (legs_of st o.label) a.0.0.journey in
      let e : (last w (legs_of st o.label)).time ≡ o.arrival = ap (λ z. z.arrival) a.0.1 in
      ((omega (arith, t, e), omega (arith, b.0)), within_range os a.1 b.1)

  pub rows_order : (os : List BestOffer) → Ordered os → RowsOrdered (map row_of os)
  rows_order [] o = tt
  rows_order (r ∷ []) o = tt
  rows_order (r ∷ (s ∷ os)) o = ((o.0, o.1), rows_order (s ∷ os) o.2)

  -- the rows are such as a sheet can hold
  pub good_rows : length offers ≤ 32 → Good (map row_of offers)
  unfolding best_offers
  good_rows h = record {
    few = simp length-map h;
    ranges = within_range offers handed (prices_below st price_bound price_bound);
    order = rows_order offers (rows_ordered f q.destination st price_bound price_bound);
  }

  -- what is written comes from what was written before
  pub written_backward : (labels : List (Label S)) → labels ≡ st → Backward labels
  written_backward labels e = subst Backward (sym e) backward

  -- what is found can be written, where it is few
  pub printable : (labels : List (Label S)) (os : List BestOffer) → labels ≡ st → os ≡ best_offers f q.destination labels → length os ≤ 32
      → (length os ≤ 32) × Good (map row_of os) × Each (λ o. o.label < length labels) os × (225 ≤ bytes) × (length (legs_from labels 0 os) ≤ legs)
  printable labels os e d h =
      let P : List (Label S) → List BestOffer → Type 0 = λ ls xs. (length xs ≤ 32) × Good (map row_of xs) × Each (λ o. o.label < length ls) xs × (225 ≤ bytes) × (length (legs_from ls 0 xs) ≤ legs) in
      let x : os ≡ offers = d ∙ ap (best_offers f q.destination) e in
      let n : length offers ≤ 32 = subst (λ l. length l ≤ 32) x h in
      let p : P st offers = (n, good_rows n, in_store, lim.bytes_room, legs_fit n) in
      subst₂ P (sym e) (sym x) p
