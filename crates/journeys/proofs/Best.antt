-- The picks are the best offers. Assumes nothing.
use Rattle.std.proofs.Common.{◌≡◌, ℕ, zero, suc, ◌<◌, ◌≤◌, true, false, ◌&&◌, eqb, ltb, List, [], ◌∷◌, get_or, Some, None, Option, sym, refl, ap, ◌∙◌, subst, ap₂, inl, inr, arith}
use Rattle.std.proofs.lemmas.Bool.{cond_both, cond-true, or_cases, or_parts, and_parts, and_cases, and_from, ltb-true, ltb-false, eqb-true, eqb-false, eq-eqb, lt-ltb, cases_lt, cases_eq}
use Rattle.journeys.specs.declared.label.Label.{Label}
use Rattle.journeys.specs.Journey.{Leg}
use Rattle.journeys.specs.declared.best_offer.BestOffer.{BestOffer}
use Rattle.journeys.specs.Lists.{Each, Eachi}
use Rattle.journeys.specs.Lists.{Somewhere}
use Rattle.journeys.specs.Fare.{FareModel, FareLaws}
use Rattle.journeys.specs.Journey.{Setup, Place, last}
use Rattle.journeys.specs.Offers.{Offer, AtMost, Beats, Such, Best, fee, offer_of}
use Rattle.journeys.specs.Endless.{scan∞}
use Rattle.journeys.specs.Traces.{legs_of}
use Rattle.journeys.specs.Answers.{Ordered, Handed, Answers}
use Rattle.journeys.specs.Selection.{offer_at, before, first_of, picking_one, pick, and_cheaper, picks, offered}
use Rattle.journeys.proofs.Lists.{foldi_finds, foldi_each, some_imp, some_at, some_out, some_each, each_imp, eachi_all, eachi_both}
use Rattle.journeys.proofs.Grows.{scan_rides}
use Rattle.journeys.proofs.Meets.{Matches, Meets}
use Rattle.journeys.proofs.Complete.{complete}
use Rattle.journeys.proofs.Times.{Timely}
use Rattle.journeys.proofs.Sound.{Known, scan_sound}

-- the row is before the offer, or at it
pub record Upto (q : BestOffer) (t p : ℕ) : Type 0 where
  pub arrival : q.arrival ≤ t
  pub price : q.arrival ≡ t → q.price ≤ p

before_true : (r q : BestOffer) → before r q ≡ true → (r.arrival ≤ q.arrival) × (r.arrival ≡ q.arrival → r.price < q.price)
before_true r q e = elim (or_cases (ltb r.arrival q.arrival) (eqb r.arrival q.arrival && ltb r.price q.price) e) [
  | inl a ↦ (omega (arith, ltb-true r.arrival q.arrival a), λ z. absurd (omega (arith, ltb-true r.arrival q.arrival a)))
  | inr b ↦ (let c = and_parts (eqb r.arrival q.arrival) (ltb r.price q.price) b in (omega (arith, eqb-true r.arrival q.arrival c.0), λ z. ltb-true _ _ c.1))
]

before_false : (r q : BestOffer) → before r q ≡ false → Upto q r.arrival r.price
before_false r q e =
    let a = or_parts (ltb r.arrival q.arrival) (eqb r.arrival q.arrival && ltb r.price q.price) e in
    record {
      arrival = ltb-false _ _ a.0;
      price = λ z. elim (and_cases (eqb r.arrival q.arrival) (ltb r.price q.price) a.1) [ inl b ↦ absurd (eqb-false _ _ b (sym z)) | inr c ↦ ltb-false _ _ c ];
    }

-- what holds of the row, if any
abbrev pub If : (BestOffer → Type 0) → Option BestOffer → Type 0
If P None = Unit {0}
If P (Some r) = P r

abbrev pub Is : (BestOffer → Type 0) → Option BestOffer → Type 0
Is P None = ⊥
Is P (Some r) = P r

first_new : (r : BestOffer) (o : Option BestOffer) → Is (λ q. Upto q r.arrival r.price) (first_of r o)
first_new r None = record { arrival = omega arith; price = λ _. omega arith }
first_new r (Some q) = cond_both (before r q) (Some r) (Some q) (Is (λ q. Upto q r.arrival r.price)) (λ _. record { arrival = omega arith; price = λ _. omega arith }) (before_false r q)

first_old : (t p : ℕ) (r : BestOffer) (o : Option BestOffer) → Is (λ q. Upto q t p) o → Is (λ q. Upto q t p) (first_of r o)
first_old t p r None u = absurd u
first_old t p r (Some q) u = cond_both (before r q) (Some r) (Some q) (Is (λ q. Upto q t p))
    (λ e. let b = before_true r q e in record { arrival = omega (arith, b.0, u.arrival); price = λ z. let y : q.arrival ≡ t = omega (arith, b.0, u.arrival) in omega (arith, b.1 (z ∙ sym y), u.price y) })
    (λ _. u)

first_if : (P : BestOffer → Type 0) (r : BestOffer) (o : Option BestOffer) → P r → If P o → If P (first_of r o)
first_if P r None p i = p
first_if P r (Some q) p i = cond_both (before r q) (Some r) (Some q) (If P) (λ _. p) (λ _. i)

module _ {S : Type 0} (f : FareModel S) (dest : ℕ) where
  -- a label at the destination with the offer t, p
  pub record With (t p : ℕ) (l : Label S) : Type 0 where
    pub there : l.stop ≡ dest
    pub arrival : l.time ≡ t
    pub price : fee f l.rides l.state ≡ p

  with_of : (l : Label S) → l.stop ≡ dest → (st : List (Label S)) → Somewhere (λ x. x ≡ l) st → Somewhere (With l.time (fee f l.rides l.state)) st
  with_of l d st s = some_imp (λ x. x ≡ l) (With l.time (fee f l.rides l.state)) (λ x e. record { there = ap (λ (y : Label S). y.stop) e ∙ d; arrival = ap (λ (y : Label S). y.time) e; price = ap (λ (y : Label S). fee f y.rides y.state) e }) st s

  pick_upto : (bound t p : ℕ) (st : List (Label S)) → p < bound → Somewhere (With t p) st → Is (λ q. Upto q t p) (pick f dest bound st)
  unfolding pick
  pick_upto bound t p st h s = foldi_finds (picking_one f dest bound) (With t p) (Is (λ q. Upto q t p))
      (λ j l o x. rw (cond-true (eqb l.stop dest && ltb (fee f l.rides l.state) bound) (first_of (offer_at f j l) o) o (and_from _ _ (eq-eqb _ _ x.there) (lt-ltb _ _ (rw x.price h))))
      (subst (λ (n : ℕ). Is (λ q. Upto q n p) (first_of (offer_at f j l) o)) x.arrival (subst (λ (n : ℕ). Is (λ q. Upto q l.time n) (first_of (offer_at f j l) o)) x.price (first_new (offer_at f j l) o))))
      (λ j l o u. cond_both (eqb l.stop dest && ltb (fee f l.rides l.state) bound) (first_of (offer_at f j l) o) o (Is (λ q. Upto q t p)) (λ _. first_old t p (offer_at f j l) o u) (λ _. u))
      0 st None s

  pick_each : (P : ℕ → Label S → Type 0) (Q : BestOffer → Type 0) (bound : ℕ) (st : List (Label S)) → Eachi P 0 st → ((j : ℕ) (l : Label S) → P j l → l.stop ≡ dest → fee f l.rides l.state < bound → Q (offer_at f j l)) → If Q (pick f dest bound st)
  unfolding pick
  pick_each P Q bound st e h = foldi_each (picking_one f dest bound) P (If Q)
      (λ j l o p i. cond_both (eqb l.stop dest && ltb (fee f l.rides l.state) bound) (first_of (offer_at f j l) o) o (If Q)
      (λ t. let a = and_parts (eqb l.stop dest) (ltb (fee f l.rides l.state) bound) t in first_if Q (offer_at f j l) o (h j l p (eqb-true _ _ a.0) (ltb-true _ _ a.1)) i)
      (λ _. i))
      0 st None e tt

  -- no label at the destination beats the row
  abbrev pub Unbeaten : List (Label S) → BestOffer → Type 0
  Unbeaten st r = (t p : ℕ) → Somewhere (With t p) st → t ≤ r.arrival → p ≤ r.price → (t ≡ r.arrival) × (p ≡ r.price)

  pub rows_each : (P : ℕ → Label S → Type 0) (Q : BestOffer → Type 0) (st : List (Label S)) → Eachi P 0 st → ((j : ℕ) (l : Label S) → P j l → l.stop ≡ dest → Q (offer_at f j l)) → (n bound : ℕ) → Each (λ r. Q r × Unbeaten st r) (picks f dest st n bound)
  unfolding picks
  rows_each P Q st e h zero bound = tt
  rows_each P Q st e h (suc n) bound = go (pick f dest bound st) (pick_each P (λ r. (r.price < bound) × Q r) bound st e (λ j l p d b. (b, h j l p d))) (λ t p s b. pick_upto bound t p st b s) (rows_each P Q st e h n)
    where
      go : (o : Option BestOffer) → If (λ r. (r.price < bound) × Q r) o → ((t p : ℕ) → Somewhere (With t p) st → p < bound → Is (λ q. Upto q t p) o) → ((b : ℕ) → Each (λ r. Q r × Unbeaten st r) (picks f dest st n b)) → Each (λ r. Q r × Unbeaten st r) (and_cheaper o (picks f dest st n))
      go None i u more = tt
      go (Some r) i u more = (
        (
          i.1,
          λ t p s a b.
              let x = u t p s (omega (arith, i.0)) in
              let y : t ≡ r.arrival = omega (arith, x.arrival) in
              (y, omega (arith, x.price (sym y))),
        ),
        more r.price,
      )

  in_store : (st : List (Label S)) → Eachi (λ j l. Somewhere (λ x. x ≡ l) st) 0 st
  in_store st = eachi_all (λ j l. Somewhere (λ x. x ≡ l) st) 0 st (λ j d h. some_at (λ x. x ≡ get_or st j d) st j d h refl)

  -- the row picked is of a label, and costs less than the bound
  abbrev pub OfStore : List (Label S) → ℕ → BestOffer → Type 0
  OfStore st bound r = (r.price < bound) × Somewhere (With r.arrival r.price) st

  pub pick_in : (bound : ℕ) (st : List (Label S)) → If (OfStore st bound) (pick f dest bound st)
  pick_in bound st = pick_each (λ j l. Somewhere (λ x. x ≡ l) st) (OfStore st bound) bound st (in_store st)
      (λ j l s d b. (b, with_of l d st s))

  rows_met : (st : List (Label S)) (t p : ℕ) → Somewhere (With t p) st → (n bound : ℕ) → bound ≤ n → p < bound → Somewhere (λ r. (r.arrival ≤ t) × (r.price ≤ p)) (picks f dest st n bound)
  unfolding picks
  rows_met st t p s zero bound h b = absurd (omega arith)
  rows_met st t p s (suc n) bound h b = go (pick f dest bound st) (pick_in bound st) (pick_upto bound t p st b s) (rows_met st t p s n)
    where
      go : (o : Option BestOffer) → If (OfStore st bound) o → Is (λ q. Upto q t p) o → ((c : ℕ) → c ≤ n → p < c → Somewhere (λ r. (r.arrival ≤ t) × (r.price ≤ p)) (picks f dest st n c)) → Somewhere (λ r. (r.arrival ≤ t) × (r.price ≤ p)) (and_cheaper o (picks f dest st n))
      go None i u more = absurd u
      go (Some r) i u more = elim (cases_lt p r.price) [ inl c ↦ inr (more r.price (omega (arith, i.0)) c) | inr c ↦ inl (u.arrival, c) ]

  abbrev Follows : BestOffer → List BestOffer → Type 0
  Follows r [] = Unit {0}
  Follows r (q ∷ rs) = (r.arrival < q.arrival) × (q.price < r.price)

  ordered_cons : (r : BestOffer) (rs : List BestOffer) → Follows r rs → Ordered rs → Ordered (r ∷ rs)
  ordered_cons r [] a o = tt
  ordered_cons r (q ∷ rs) a o = (a.0, a.1, o)

  follows : (st : List (Label S)) (r : BestOffer) (bound : ℕ) → r.price < bound → ((t p : ℕ) → Somewhere (With t p) st → p < bound → Upto r t p) → (n : ℕ) → Follows r (picks f dest st n r.price)
  unfolding picks
  follows st r bound h u zero = tt
  follows st r bound h u (suc n) = go (pick f dest r.price st) (pick_in r.price st)
    where
      go : (o : Option BestOffer) → If (OfStore st r.price) o → Follows r (and_cheaper o (picks f dest st n))
      go None i = tt
      go (Some q) i =
          let x = u q.arrival q.price i.1 (omega (arith, i.0)) in
          (elim (cases_eq r.arrival q.arrival) [ inl e ↦ absurd (omega (arith, i.0, x.price e)) | inr ne ↦ omega (arith, x.arrival) ], i.0)

  pub rows_ordered : (st : List (Label S)) (n bound : ℕ) → Ordered (picks f dest st n bound)
  unfolding picks
  rows_ordered st zero bound = tt
  rows_ordered st (suc n) bound = go (pick f dest bound st) (pick_in bound st) (λ t p s b. pick_upto bound t p st b s) (rows_ordered st n)
    where
      go : (o : Option BestOffer) → If (OfStore st bound) o → ((t p : ℕ) → Somewhere (With t p) st → p < bound → Is (λ q. Upto q t p) o) → ((b : ℕ) → Ordered (picks f dest st n b)) → Ordered (and_cheaper o (picks f dest st n))
      go None i u more = tt
      go (Some r) i u more = ordered_cons r (picks f dest st n r.price) (follows st r bound i.0 u n) (more r.price)

same_offer : {o q : Offer} → o.arrival ≡ q.arrival → o.price ≡ q.price → o ≡ q
same_offer d e = ap₂ {C = Offer} (λ t p. record { arrival = t; price = p }) d e

module _ {S : Type 0} (w : Setup S) (timely : Timely w) where
  handed : (dest limit : ℕ) (j : ℕ) (l : Label S) → Known w timely (scan∞ w limit) j l × (l.rides ≤ limit) → l.stop ≡ dest → Handed w dest limit (offer_at w.fare j l) (legs_of (scan∞ w limit) j)
  handed dest limit j l k d =
      let e = k.0.real.ends in
      (record { journey = k.0.real.journey; there = ap (λ (p : Place S). p.stop) e ∙ d; within = subst (λ (p : Place S). p.rides ≤ limit) (sym e) k.1 }, ap (offer_of w) e)

  pub best_rows : (dest limit n bound : ℕ) → Each (λ r. Handed w dest limit r (legs_of (scan∞ w limit) r.label) × Unbeaten w.fare dest (scan∞ w limit) r) (picks w.fare dest (scan∞ w limit) n bound)
  best_rows dest limit n bound = rows_each w.fare dest (λ j l. Known w timely (scan∞ w limit) j l × (l.rides ≤ limit)) (λ r. Handed w dest limit r (legs_of (scan∞ w limit) r.label)) (scan∞ w limit)
      (eachi_both (Known w timely (scan∞ w limit)) (λ l. l.rides ≤ limit) 0 (scan∞ w limit) (scan_sound w timely limit) (scan_rides w limit)) (handed dest limit) n bound

module _ {S : Type 0} (w : Setup S) (timely : Timely w) (laws : FareLaws w.fare) where
  fee_least : (r q : ℕ) (s t : S) → r ≤ q → (r ≡ 0 → q ≡ 0) → Matches w.fare s t → fee w.fare r s ≤ fee w.fare q t
  fee_least zero zero s t h z m = omega arith
  fee_least zero (suc q) s t h z m = omega arith
  fee_least (suc r) zero s t h z m = absurd (omega arith)
  fee_least (suc r) (suc q) s t h z (inl e) = omega (arith, ap w.fare.price e)
  fee_least (suc r) (suc q) s t h z (inr c) = laws.no_dearer s t c

  -- a label at the destination has an offer that is at most the journey's
  met_offer : (dest limit : ℕ) (ls : List Leg) → Such w dest limit ls → (t p : ℕ) × Somewhere (With w.fare dest t p) (scan∞ w limit) × (t ≤ (offer_of w (last w ls)).arrival) × (p ≤ (offer_of w (last w ls)).price)
  met_offer dest limit ls u =
      let x = some_out (λ l. Meets w.fare l (last w ls)) (scan∞ w limit) (complete w timely.kept laws limit ls u.journey u.within) in
      let l = x.0 in
      let m = x.1 in
      (l.time, fee w.fare l.rides l.state, with_of w.fare dest l (m.stop ∙ u.there) (scan∞ w limit) x.2, m.time, fee_least l.rides (last w ls).rides l.state (last w ls).state m.rides m.none m.state)

  row_best : (dest limit : ℕ) (r : BestOffer) → Handed w dest limit r (legs_of (scan∞ w limit) r.label) → Unbeaten w.fare dest (scan∞ w limit) r → Best w dest limit (offered r)
  row_best dest limit r h u = record {
    legs = legs_of (scan∞ w limit) r.label;
    such = h.0;
    is = h.1;
    unbeaten = λ ls s b.
        let x = met_offer dest limit ls s in
        let a : x.0 ≤ r.arrival = omega (arith, x.3, b.0.arrival) in
        let c : x.1 ≤ r.price = omega (arith, x.4, b.0.price) in
        let y = u x.0 x.1 x.2 a c in
        let d : (offer_of w (last w ls)).arrival ≡ r.arrival = omega (arith, x.3, b.0.arrival, y.0) in
        let e : (offer_of w (last w ls)).price ≡ r.price = omega (arith, x.4, b.0.price, y.1) in
        b.1 (same_offer d e);
  }

  pub answers : (dest limit bound : ℕ) → 0 < bound → ((s : S) → w.fare.price s < bound) → Answers w dest limit (picks w.fare dest (scan∞ w limit) bound bound) (λ r. legs_of (scan∞ w limit) r.label)
  answers dest limit bound pos low = record {
    ordered = rows_ordered w.fare dest (scan∞ w limit) bound bound;
    best = each_imp (λ r. Handed w dest limit r (legs_of (scan∞ w limit) r.label) × Unbeaten w.fare dest (scan∞ w limit) r) (λ r. Best w dest limit (offered r)) (λ r h. row_best dest limit r h.0 h.1) (picks w.fare dest (scan∞ w limit) bound bound) (best_rows w timely dest limit bound bound);
    handed = each_imp (λ r. Handed w dest limit r (legs_of (scan∞ w limit) r.label) × Unbeaten w.fare dest (scan∞ w limit) r) (λ r. Handed w dest limit r (legs_of (scan∞ w limit) r.label)) (λ r h. h.0) (picks w.fare dest (scan∞ w limit) bound bound) (best_rows w timely dest limit bound bound);
    all = λ o b. all_rows o b;
    met = met_rows;
  }
    where
      rs : List BestOffer
      rs = picks w.fare dest (scan∞ w limit) bound bound

      fee_low : (r : ℕ) (s : S) → fee w.fare r s < bound
      fee_low zero s = pos
      fee_low (suc r) s = low s

      met_rows : (ls : List Leg) → Such w dest limit ls → Somewhere (λ r. AtMost (offered r) (offer_of w (last w ls))) rs
      met_rows ls s =
          let x = met_offer dest limit ls s in
          let y : x.1 < bound = omega (arith, x.4, fee_low (last w ls).rides (last w ls).state) in
          some_imp (λ r. (r.arrival ≤ x.0) × (r.price ≤ x.1)) (λ r. AtMost (offered r) (offer_of w (last w ls))) (λ r h. record { arrival = omega (arith, x.3, h.0); price = omega (arith, x.4, h.1) }) rs
          (rows_met w.fare dest (scan∞ w limit) x.0 x.1 x.2 bound bound (omega arith) y)

      one : (o : Offer) → Best w dest limit o → (r : BestOffer) → (Handed w dest limit r (legs_of (scan∞ w limit) r.label) × Unbeaten w.fare dest (scan∞ w limit) r) × AtMost (offered r) o → offered r ≡ o
      one o b r h =
          let m = h.1 in
          let u = b.unbeaten (legs_of (scan∞ w limit) r.label) h.0.0.0 in
          let v : Beats (offered r) o → ⊥ = subst (λ (q : Offer). Beats q o → ⊥) h.0.0.1 u in
          elim (cases_eq r.arrival o.arrival) [
            | inl d ↦ elim (cases_eq r.price o.price) [ inl e ↦ same_offer d e | inr ne ↦ absurd (v (m, λ q. ne (ap (λ (z : Offer). z.price) q))) ]
            | inr ne ↦ absurd (v (m, λ q. ne (ap (λ (z : Offer). z.arrival) q)))
          ]

      all_rows : (o : Offer) → Best w dest limit o → Somewhere (λ r. offered r ≡ o) rs
      all_rows o b =
          let m = subst (λ (q : Offer). Somewhere (λ r. AtMost (offered r) q) rs) b.is (met_rows b.legs b.such) in
          some_imp (λ r. (Handed w dest limit r (legs_of (scan∞ w limit) r.label) × Unbeaten w.fare dest (scan∞ w limit) r) × AtMost (offered r) o) (λ r. offered r ≡ o) (one o b) rs
          (some_each (λ r. Handed w dest limit r (legs_of (scan∞ w limit) r.label) × Unbeaten w.fare dest (scan∞ w limit) r) (λ r. AtMost (offered r) o) rs (best_rows w timely dest limit bound bound) m)
