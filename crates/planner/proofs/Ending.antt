-- A question that is put has one cause where it is refused, and none where it is answered.
use Rattle.std.proofs.Common.{◌≡◌, ℕ, ◌<◌, Bool, true, false, cond, ltb, List, length, Some, None, Ok, Err, Option, Result, sym, refl, ap, ◌∙◌, subst, inl, inr, arith}
use Rattle.std.proofs.lemmas.Bool.{lt-ltb, ltb-true}
use Rattle.timetable.specs.declared.hops.Hop.{Hop}
use Rattle.timetable.specs.Rule.{keeps}
use Rattle.timetable.specs.Table.{most_hops, count_of}
use Rattle.journeys.specs.declared.full.Full.TheVariants.{Store, Aboard}
use Rattle.journeys.specs.declared.network.Footpath.{Footpath}
use Rattle.journeys.specs.declared.network.Stop.{Stop}
use Rattle.journeys.specs.declared.question.Question.{Question as Asked}
use Rattle.journeys.specs.Endless.{scan∞, most_aboard∞}
use Rattle.journeys.specs.Fare.{FareModel, FareLaws}
use Rattle.journeys.specs.Journey.{Setup}
use Rattle.journeys.specs.Labels.{label_at_origin}
use Rattle.journeys.specs.Runs.{Run, on, ended}
use Rattle.journeys.specs.Scan.{Room, Stage, scan_for}
use Rattle.journeys.specs.Selection.{best_offers, price_bound}
use Rattle.journeys.proofs.Crowds.{EndedBy, CrowdedIn, ScanEnds, scan_ends, scan_crowded}
use Rattle.journeys.proofs.Filled.{Throughout, StoreFew, StoreFilled, scan_filled}
use Rattle.journeys.proofs.Tracks.{Along, scan_along}
use Rattle.sheet.specs.Refusals.{Cause}
use Rattle.sheet.specs.Rows.{most_rows}
use Rattle.planner.specs.declared.answer.Answer.{Answer}
use Rattle.planner.specs.declared.refusal.Refusal.{Refusal}
use Rattle.planner.specs.declared.refusal.Refusal.TheVariants.{StoreFull, AboardFull, ManyOffers}
use Rattle.planner.specs.Acceptance.{Askable, ScanFits}
use Rattle.planner.specs.Causes.{FirstCrowded, NotAnswered, field_fails, stops_fail, paths_fail, hops_fail, short_sheet, short_legs, store_full, aboard_full, many_offers, TellsCause}
use Rattle.planner.specs.Limits.{fault_of}
use Rattle.planner.specs.Outcome.{Memory, Space, space_in, Outcome, asked, scanned, counted, printed, refused, used, unless}
use Rattle.planner.specs.Promise.{setup_of, BestOffersAre}
use Rattle.planner.specs.Refusals.{cause}
use Rattle.planner.proofs.Askables.{askable, no_fault_found}
use Rattle.planner.proofs.Causes.{fault_cause, fault_at}
use Rattle.planner.proofs.Promises.{best_counted, one_count}
use Rattle.planner.proofs.Settled.{limits}

err_same : (x y : Refusal) → ◌≡◌ {A = Result Answer Refusal} (Err x) (Err y) → x ≡ y
err_same x y e = cc

ok_err : {A : Type 0} (a : Answer) (x : Refusal) → ◌≡◌ {A = Result Answer Refusal} (Ok a) (Err x) → A
ok_err a x e = let z : ◌≡◌ {A = ℕ} 0 1 = cc in absurd (omega arith)

module _ {S : Type 0} (f : FareModel S) (hops : List Hop) (stops : List Stop) (paths : List Footpath) (q : Asked) (m : Memory S) (laws : FareLaws f) (low : (s : S) → f.price s < price_bound) (rule : keeps hops ≡ true) where
  abbrev w : Setup S
  w = setup_of f hops paths q

  abbrev room : Room
  room = record { labels = length m.labels; aboard = length m.aboard }

  abbrev space : Space
  space = space_in m

  abbrev N : Cause → Type 0
  N = NotAnswered f hops stops paths q space

  abbrev run : Run (Stage S)
  run = scan_for f hops paths q m.labels m.aboard

  abbrev answer : Result Answer Refusal
  answer = (asked f hops stops paths q m).answer

  crowd_told : (hop : ℕ) → CrowdedIn w room q.rides hop → FirstCrowded w q.rides space hop
  crowd_told hop c = record { round = c.round; within = c.within; is = omega (arith, c.is); crowded = c.first.crowded; rounds_fit = c.rounds_fit; hops_fit = c.first.hops_fit; labels_fit = c.first.labels_fit }

  crowd_met : length hops < most_hops → (hop : ℕ) → FirstCrowded w q.rides space hop → CrowdedIn w room q.rides hop
  crowd_met few hop c = record { round = c.round; within = c.within; is = omega (arith, c.is, few); first = record { crowded = c.crowded; hops_fit = c.hops_fit; labels_fit = c.labels_fit }; rounds_fit = c.rounds_fit }

  module _ (can : Askable q stops paths hops space) where
    few : length hops < most_hops
    few = can.question.few_hops

    counted_all : count_of hops ≡ length hops
    counted_all = let z = few in omega arith

    along : Along w room run (scan∞ w q.rides) (most_aboard∞ w q.rides)
    along = scan_along w room counted_all m.aboard q.rides

    ends : ScanEnds w room q.rides run
    ends = scan_ends w room counted_all m.aboard q.rides

    clear : fault_of q stops paths hops (length m.sheet) (length m.legs) ≡ None
    clear = no_fault_found q stops paths hops space can

    put : answer ≡ (scanned f q.destination m run).answer
    put = ap (λ (x : Option Refusal). (unless x m (scanned f q.destination m run)).answer) clear

    counted_best : BestOffersAre w q.destination q.rides (length (best_offers f q.destination (scan∞ w q.rides)))
    counted_best = best_counted f laws low q stops paths hops (length m.sheet) (length m.legs) rule (limits q stops paths hops (length m.sheet) (length m.legs) clear)

    crowd_ends : (hop : ℕ) → FirstCrowded w q.rides space hop → EndedBy (Aboard hop) run
    crowd_ends hop c = scan_crowded w room counted_all m.aboard q.rides hop (crowd_met few hop c)

    -- the answer of a scan that has come to its end
    abbrev told : Stage S → Bool → Outcome S
    told s b = cond b (refused (ManyOffers (length (best_offers f q.destination s.store))) (used (length s.store) s m)) (record { answer = Ok (counted f q.destination s); left = printed f q.destination s m })

    -- a refusal by the scan has its cause
    run_cause : (r : Run (Stage S)) → Along w room r (scan∞ w q.rides) (most_aboard∞ w q.rides) → ScanEnds w room q.rides r → Throughout (StoreFew f room) (StoreFilled f room) r
        → ((hop : ℕ) → FirstCrowded w q.rides space hop → EndedBy (Aboard hop) r)
        → (e : Refusal) → (scanned f q.destination m r).answer ≡ Err e → N (cause e)
    run_cause (on s) a x t c e is = go (ltb most_rows (length (best_offers f q.destination s.store))) refl is
      where
        go : (b : Bool) → ltb most_rows (length (best_offers f q.destination s.store)) ≡ b → (told s b).answer ≡ Err e → N (cause e)
        go true h is = subst (λ (e : Refusal). N (cause e)) (err_same (ManyOffers (length (best_offers f q.destination s.store))) e is)
            (many_offers (length (best_offers f q.destination s.store)) can (record { labels_fit = omega (arith, a.1, ap length a.0); aboard_fit = a.2 }) (ltb-true most_rows _ h)
            (subst (λ ls. BestOffersAre w q.destination q.rides (length (best_offers f q.destination ls))) (sym a.0) counted_best))
        go false h is = ok_err (counted f q.destination s) e is
    run_cause (ended Store s) a x t c e is = subst (λ (e : Refusal). N (cause e)) (err_same (StoreFull (length m.labels)) e (ap (λ (n : ℕ). Err (StoreFull n)) (sym (t.1 refl)) ∙ is))
        (store_full can x (λ hop y. let z = c hop y in absurd (let u : ◌≡◌ {A = ℕ} 0 1 = cc in omega arith)))
    run_cause (ended (Aboard hop) s) a x t c e is = subst (λ (e : Refusal). N (cause e)) (err_same (AboardFull hop) e is) (aboard_full hop can (crowd_told hop x))

    scan_cause : (e : Refusal) → answer ≡ Err e → N (cause e)
    scan_cause e is = run_cause run along ends (scan_filled f room hops paths (label_at_origin f q.origin q.departure) m.aboard q.rides) crowd_ends e (sym put ∙ is)

    -- a cause that the scan meets is the refusal's
    crowd_refused : (hop : ℕ) (r : Run (Stage S)) → EndedBy (Aboard hop) r → (scanned f q.destination m r).answer ≡ Err (AboardFull hop)
    crowd_refused hop (on s) e = absurd e
    crowd_refused hop (ended Store s) e = absurd (let u : ◌≡◌ {A = ℕ} 0 1 = cc in omega arith)
    crowd_refused hop (ended (Aboard i) s) e = let z : i ≡ hop = cc in ap (λ (n : ℕ). Err (AboardFull n)) z

    store_refused : (r : Run (Stage S)) → Along w room r (scan∞ w q.rides) (most_aboard∞ w q.rides) → ScanEnds w room q.rides r → Throughout (StoreFew f room) (StoreFilled f room) r
        → length m.labels < length (scan∞ w q.rides) → ((hop : ℕ) → FirstCrowded w q.rides space hop → ⊥) → (scanned f q.destination m r).answer ≡ Err (StoreFull (length m.labels))
    store_refused (on s) a x t more none = absurd (omega (arith, a.1, ap length a.0, more))
    store_refused (ended Store s) a x t more none = ap (λ (n : ℕ). Err (StoreFull n)) (t.1 refl)
    store_refused (ended (Aboard hop) s) a x t more none = absurd (none hop (crowd_told hop x))

    offers_refused : (n : ℕ) (r : Run (Stage S)) → Along w room r (scan∞ w q.rides) (most_aboard∞ w q.rides) → ScanFits f hops paths q space → most_rows < n → BestOffersAre w q.destination q.rides n
        → (scanned f q.destination m r).answer ≡ Err (ManyOffers n)
    offers_refused n (on s) a fits many b =
        let same : length (best_offers f q.destination s.store) ≡ n = ap (λ ls. length (best_offers f q.destination ls)) a.0 ∙ one_count w q.destination q.rides (length (best_offers f q.destination (scan∞ w q.rides))) n counted_best b in
        ap (λ (b : Bool). (told s b).answer) (lt-ltb most_rows (length (best_offers f q.destination s.store)) (omega arith)) ∙ ap (λ (k : ℕ). Err (ManyOffers k)) same
    offers_refused n (ended full s) (inl x) fits many b = absurd (omega (arith, x, fits.labels_fit))
    offers_refused n (ended full s) (inr x) fits many b = absurd (omega (arith, x, fits.aboard_fit))

  -- a fault is the answer
  faulted : (e : Refusal) → fault_of q stops paths hops (length m.sheet) (length m.legs) ≡ Some e → answer ≡ Err e
  faulted e is = ap (λ (x : Option Refusal). (unless x m (scanned f q.destination m run)).answer) is

  abbrev Refuses : Cause → Type 0
  Refuses c = (e : Refusal) × (answer ≡ Err e) × (cause e ≡ c)

  before : (c : Cause) → (e : Refusal) × (fault_of q stops paths hops space.sheet space.legs ≡ Some e) × (cause e ≡ c) → Refuses c
  before c x = (x.0, faulted x.0 x.1, x.2)

  refused_for : (c : Cause) → N c → Refuses c
  refused_for c (field_fails k x) = before _ (fault_at f hops stops paths q space _ (field_fails k x) tt)
  refused_for c (stops_fail at a x) = before _ (fault_at f hops stops paths q space _ (stops_fail at a x) tt)
  refused_for c (paths_fail at a s x) = before _ (fault_at f hops stops paths q space _ (paths_fail at a s x) tt)
  refused_for c (hops_fail at a s p x) = before _ (fault_at f hops stops paths q space _ (hops_fail at a s p x) tt)
  refused_for c (short_sheet a n x) = before _ (fault_at f hops stops paths q space _ (short_sheet a n x) tt)
  refused_for c (short_legs a n b x) = before _ (fault_at f hops stops paths q space _ (short_legs a n b x) tt)
  refused_for c (store_full can more none) = (StoreFull (length m.labels), put can ∙ store_refused can run (along can) (ends can) (scan_filled f room hops paths (label_at_origin f q.origin q.departure) m.aboard q.rides) more none, refl)
  refused_for c (aboard_full hop can x) = (AboardFull hop, put can ∙ crowd_refused can hop run (crowd_ends can hop x), refl)
  refused_for c (many_offers n can fits many b) = (ManyOffers n, put can ∙ offers_refused can n run (along can) fits many b, refl)

  has_cause : (e : Refusal) → answer ≡ Err e → N (cause e)
  has_cause e is = go (fault_of q stops paths hops (length m.sheet) (length m.legs)) refl
    where
      go : (o : Option Refusal) → fault_of q stops paths hops (length m.sheet) (length m.legs) ≡ o → N (cause e)
      go (Some r) x = fault_cause f hops stops paths q space e (x ∙ ap Some (err_same r e (sym (faulted r x) ∙ is)))
      go None x = scan_cause (askable q stops paths hops space x) e is

  pub cause_told : TellsCause f hops stops paths q space answer
  cause_told = go answer refl
    where
      go : (r : Result Answer Refusal) → answer ≡ r → TellsCause f hops stops paths q space r
      go (Ok a) is = λ c x. let y = refused_for c x in ok_err a y.0 (sym is ∙ y.1)
      go (Err e) is = record { stands = has_cause e is; alone = λ other x. let y = refused_for other x in sym y.2 ∙ ap cause (err_same y.0 e (sym y.1 ∙ is)) }
