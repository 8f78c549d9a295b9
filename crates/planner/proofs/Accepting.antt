-- A question is accepted exactly where it is acceptable.
use Rattle.std.proofs.Common.{◌≡◌, ℕ, ◌<◌, ◌≤◌, Bool, true, false, cond, ltb, List, length, is_ok, Some, None, Ok, Decides, Option, refl, ap, inl, inr, arith}
use Rattle.std.proofs.lemmas.Bool.{ltb-true, ltb-false, false≢true}
use Rattle.timetable.specs.declared.hops.Hop.{Hop}
use Rattle.journeys.specs.declared.network.Footpath.{Footpath}
use Rattle.journeys.specs.declared.network.Stop.{Stop}
use Rattle.journeys.specs.declared.question.Question.{Question as Asked}
use Rattle.journeys.specs.Endless.{scan∞, most_aboard∞}
use Rattle.journeys.specs.Fare.{FareModel}
use Rattle.journeys.specs.Journey.{Setup}
use Rattle.journeys.specs.Runs.{Run, on, ended}
use Rattle.journeys.specs.Scan.{Room, Stage, scan_for}
use Rattle.journeys.specs.Selection.{best_offers}
use Rattle.journeys.proofs.Tracks.{Along, scan_along}
use Rattle.sheet.specs.Rows.{most_rows}
use Rattle.planner.specs.declared.refusal.Refusal.{Refusal}
use Rattle.planner.specs.declared.refusal.Refusal.TheVariants.{ManyOffers}
use Rattle.planner.specs.Acceptance.{Acceptable}
use Rattle.planner.specs.Limits.{fault_of}
use Rattle.planner.specs.Outcome.{Memory, space_in, asked, scanned, answered, refused, used, counted, printed, unless}
use Rattle.planner.specs.Promise.{setup_of}
use Rattle.planner.proofs.Askables.{askable, no_fault_found}
use Rattle.planner.proofs.Settled.{limits}
use Rattle.planner.proofs.Promises.{best_counted, one_count}
use Rattle.timetable.specs.Rule.{keeps}
use Rattle.journeys.specs.Fare.{FareLaws}
use Rattle.journeys.specs.Selection.{price_bound}

module _ {S : Type 0} (f : FareModel S) (hops : List Hop) (stops : List Stop) (paths : List Footpath) (q : Asked) (m : Memory S) where
  abbrev w : Setup S
  w = setup_of f hops paths q

  abbrev room : Room
  room = record { labels = length m.labels; aboard = length m.aboard }

  -- the endless scan fits the two lists, and has few best offers
  pub record Fits : Type 0 where
    pub labels_fit : length (scan∞ w q.rides) ≤ length m.labels
    pub aboard_fit : most_aboard∞ w q.rides ≤ length m.aboard
    pub few_offers : length (best_offers f q.destination (scan∞ w q.rides)) ≤ most_rows

  offers_decide : (s : Stage S) → Along w room (on s) (scan∞ w q.rides) (most_aboard∞ w q.rides) → Decides (is_ok (answered f q.destination m s).answer) Fits
  offers_decide s a = go (ltb most_rows (length (best_offers f q.destination s.store))) refl
    where
      go : (b : Bool) → ltb most_rows (length (best_offers f q.destination s.store)) ≡ b
          → Decides (is_ok (cond b (refused (ManyOffers (length (best_offers f q.destination s.store))) (used (length s.store) s m)) (record { answer = Ok (counted f q.destination s); left = printed f q.destination s m })).answer) Fits
      go true e = ((λ z. absurd (false≢true z)), λ x. absurd (omega (arith, x.few_offers, ltb-true most_rows _ e, ap (λ ls. length (best_offers f q.destination ls)) a.0)))
      go false e = ((λ z. record { labels_fit = omega (arith, a.1, ap length a.0); aboard_fit = a.2; few_offers = omega (arith, ltb-false most_rows _ e, ap (λ ls. length (best_offers f q.destination ls)) a.0) }), λ x. refl)

  scan_decides : (r : Run (Stage S)) → Along w room r (scan∞ w q.rides) (most_aboard∞ w q.rides) → Decides (is_ok (scanned f q.destination m r).answer) Fits
  scan_decides (on s) a = offers_decide s a
  scan_decides (ended full s) (inl x) = ((λ z. absurd (false≢true z)), λ y. absurd (omega (arith, x, y.labels_fit)))
  scan_decides (ended full s) (inr x) = ((λ z. absurd (false≢true z)), λ y. absurd (omega (arith, x, y.aboard_fit)))

  abbrev no_fault : Option Refusal → Type 0
  no_fault o = fault_of q stops paths hops (length m.sheet) (length m.legs) ≡ o

  pub accepted_where : FareLaws f → ((s : S) → f.price s < price_bound) → keeps hops ≡ true → Decides (is_ok (asked f hops stops paths q m).answer) (Acceptable f hops stops paths q (space_in m))
  accepted_where laws low rule = go (fault_of q stops paths hops (length m.sheet) (length m.legs)) refl
    where
      go : (o : Option Refusal) → fault_of q stops paths hops (length m.sheet) (length m.legs) ≡ o → Decides (is_ok (unless o m (scanned f q.destination m (scan_for f hops paths q m.labels m.aboard))).answer) (Acceptable f hops stops paths q (space_in m))
      go (Some refusal) e = ((λ z. absurd (false≢true z)), λ x. absurd (let n = no_fault_found q stops paths hops (space_in m) x.askable in let z : ◌≡◌ {A = ℕ} 0 1 = cc in omega arith))
      go None e =
          let lim = limits q stops paths hops (length m.sheet) (length m.legs) e in
          let d = scan_decides (scan_for f hops paths q m.labels m.aboard) (scan_along w room lim.count m.aboard q.rides) in
          let b = best_counted f laws low q stops paths hops (length m.sheet) (length m.legs) rule lim in (
            (λ z. let x = d.0 z in record { askable = askable q stops paths hops (space_in m) e; scan_fits = record { labels_fit = x.labels_fit; aboard_fit = x.aboard_fit }; few_offers = (length (best_offers f q.destination (scan∞ w q.rides)), x.few_offers, b) }),
            λ x. d.1 (record { labels_fit = x.scan_fits.labels_fit; aboard_fit = x.scan_fits.aboard_fit; few_offers = omega (arith, x.few_offers.1, one_count w q.destination q.rides (length (best_offers f q.destination (scan∞ w q.rides))) x.few_offers.0 b x.few_offers.2) }),
          )
