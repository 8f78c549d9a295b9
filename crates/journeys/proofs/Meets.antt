-- A label meets a place of a journey; what one label covers, it meets. Assumes nothing.
use Rattle.std.proofs.Common.{◌≡◌, ℕ, zero, suc, ◌≤◌, true, false, not, ◌||◌, eqb, leb, ◌⊎◌, List, [], ◌∷◌, ◌++◌, sym, ap, ◌∙◌, inl, inr, ⊎_elim, arith}
use Rattle.std.proofs.lemmas.Bool.{and_parts, or_cases, not-true, leb-true, eqb-true, eq-eqb, cond_both, both_ways}
use Rattle.timetable.specs.declared.hops.Hop.{Hop}
use Rattle.timetable.specs.Rule.{Limits}
use Rattle.journeys.specs.declared.label.Label.{Label}
use Rattle.journeys.specs.Lists.{any, Somewhere}
use Rattle.journeys.specs.Fare.{FareModel, FareLaws}
use Rattle.journeys.specs.Journey.{Setup, Place}
use Rattle.journeys.specs.Fare.{boarded}
use Rattle.journeys.specs.Labels.{came_on_foot, covers}
use Rattle.journeys.specs.Endless.{offer∞}
use Rattle.journeys.proofs.Lists.{some_imp, some_left, some_right, any_some, Grown, grown_none, grown_one}

abbrev pub Matches : {S : Type 0} → FareModel S → S → S → Type 0
Matches f s t = (s ≡ t) ⊎ (f.covers s t ≡ true)

pub record Meets {S : Type 0} (f : FareModel S) (l : Label S) (p : Place S) : Type 0 where
  pub stop : l.stop ≡ p.stop
  pub time : l.time ≤ p.time
  pub rides : l.rides ≤ p.rides
  pub state : Matches f l.state p.state
  pub foot : p.foot ≡ false → came_on_foot l.way ≡ false
  pub none : l.rides ≡ 0 → p.rides ≡ 0

-- what a label that covers another is to it
pub record Over {S : Type 0} (f : FareModel S) (l c : Label S) : Type 0 where
  pub stop : l.stop ≡ c.stop
  pub time : l.time ≤ c.time
  pub rides : l.rides ≤ c.rides
  pub state : f.covers l.state c.state ≡ true
  pub foot : came_on_foot c.way ≡ false → came_on_foot l.way ≡ false
  pub none : l.rides ≡ 0 → c.rides ≡ 0

module _ {S : Type 0} (f : FareModel S) where
  pub over : (l c : Label S) → covers f l c ≡ true → Over f l c
  over l c e =
      let a = and_parts (eqb l.stop c.stop) _ e in
      let b = and_parts (leb l.time c.time) _ a.1 in
      let d = and_parts (leb l.rides c.rides) _ b.1 in
      let g = and_parts (f.covers l.state c.state) _ d.1 in
      let h = and_parts (not (came_on_foot l.way) || came_on_foot c.way) _ g.1 in
      record {
        stop = eqb-true _ _ a.0;
        time = leb-true _ _ b.0;
        rides = leb-true _ _ d.0;
        state = g.0;
        foot = λ n. ⊎_elim (not-true (came_on_foot l.way)) (λ y. absurd (both_ways (came_on_foot c.way) n y)) (or_cases _ _ h.0);
        none = λ z. ⊎_elim (λ y. absurd (both_ways (eqb l.rides 0) (not-true _ y) (eq-eqb _ _ z))) (λ y. eqb-true _ _ y) (or_cases _ _ h.1);
      }

module _ {S : Type 0} (f : FareModel S) (laws : FareLaws f) where
  pub matches_over : (r s t : S) → f.covers r s ≡ true → Matches f s t → Matches f r t
  matches_over r s t c (inl e) = inr (rw (sym e) c)
  matches_over r s t c (inr e) = inr (laws.transitive r s t c e)

  pub matches_hop : (h : Hop) (s t : S) → Limits h → Matches f s t → Matches f (f.hop h s) (f.hop h t)
  matches_hop h s t kept (inl e) = inl (ap (f.hop h) e)
  matches_hop h s t kept (inr e) = inr (laws.hop_keeps h s t kept e)

  pub matches_boarded : (r : ℕ) (s t : S) → Matches f s t → Matches f (boarded f r s) (boarded f r t)
  matches_boarded zero s t m = m
  matches_boarded (suc r) s t (inl e) = inl (ap f.change e)
  matches_boarded (suc r) s t (inr e) = inr (laws.change_keeps s t e)

  pub meets_over : (l c : Label S) (p : Place S) → Over f l c → Meets f c p → Meets f l p
  meets_over l c p o m = record {
    stop = o.stop ∙ m.stop;
    time = omega arith;
    rides = omega arith;
    state = matches_over l.state c.state p.state o.state m.state;
    foot = λ n. o.foot (m.foot n);
    none = λ z. m.none (o.none z);
  }

module _ {S : Type 0} (w : Setup S) where
  pub offer_grown : (P : Label S → Type 0) (c : Label S) (st : List (Label S)) → P c → Grown P st (offer∞ w c st)
  offer_grown P c st h = cond_both (any (λ l. covers w.fare l c) st) st (st ++ (c ∷ [])) (Grown P st) (λ _. grown_none P st) (λ _. grown_one P st c h)

  pub offer_keeps : (P : Label S → Type 0) (c : Label S) (st : List (Label S)) → Somewhere P st → Somewhere P (offer∞ w c st)
  offer_keeps P c st h = cond_both (any (λ l. covers w.fare l c) st) st (st ++ (c ∷ [])) (Somewhere P) (λ _. h) (λ _. some_left P st (c ∷ []) h)

  pub offer_meets : FareLaws w.fare → (c : Label S) (st : List (Label S)) (p : Place S) → Meets w.fare c p → Somewhere (λ l. Meets w.fare l p) (offer∞ w c st)
  offer_meets laws c st p m = cond_both (any (λ l. covers w.fare l c) st) st (st ++ (c ∷ [])) (Somewhere (λ l. Meets w.fare l p))
      (λ e. some_imp (λ l. covers w.fare l c ≡ true) (λ l. Meets w.fare l p) (λ l q. meets_over w.fare laws l c p (over w.fare l c q) m) st (any_some (λ l. covers w.fare l c) st e))
      (λ e. some_right (λ l. Meets w.fare l p) st (c ∷ []) (inl m))
