-- What the next ticket is, and how it moves with the readings.
-- Assumes nothing.
use Rattle.std.specs.Prelude.{◌≡◌, ℕ, ◌/◌, ◌%◌, ◌^◌, ◌<◌, ◌≤◌, max, true, false, cond, ◌&&◌, ◌⊎◌, List, [], ◌∷◌, ◌==◌, nat_le, nat_lt, refl}
use Rattle.std.proofs.Common.{inl, inr, ⊎_elim, sym, subst, ◌∙◌, arith}
use Rattle.std.proofs.lemmas.Bool.{and_parts, and_from, leb-true, le-leb, eqb-true, eq-eqb, ltb-true, cond_both, cond-true, cond-false, cases_Bool, cases_lt}
use Rattle.fares.specs.Readings.{AtMost}
use Rattle.rule_table.specs.Rules.{event_among, at_least, met, next_from, ticket_after, SomeRule, Leads, Reaches}
use Rattle.rule_table.specs.Rules.Reaches.{stays, goes}
use Rattle.fares.specs.declared.gauges.Gauges.{Gauges}
use Rattle.rule_table.specs.declared.rule.Rule.{Rule}
use Rattle.fares.proofs.GaugeOrder.{at_most_trans}
use Rattle.rule_table.specs.Bounded.{some_weaker}

-- ---- when a rule is met

pub at_least_tells : (m g : Gauges) → at_least m g ≡ true → AtMost m g
at_least_tells m g t =
    let a = and_parts (nat_le m.metres g.metres) (nat_le m.stops g.stops && (nat_le m.zones g.zones && nat_le m.level g.level)) t in
    let b = and_parts (nat_le m.stops g.stops) (nat_le m.zones g.zones && nat_le m.level g.level) a.1 in
    let c = and_parts (nat_le m.zones g.zones) (nat_le m.level g.level) b.1 in
    record { metres = leb-true _ _ a.0; stops = leb-true _ _ b.0; zones = leb-true _ _ c.0; level = leb-true _ _ c.1 }

pub at_least_from : (m g : Gauges) → AtMost m g → at_least m g ≡ true
at_least_from m g a =
    and_from _ _ (le-leb _ _ a.metres) (and_from _ _ (le-leb _ _ a.stops) (and_from _ _ (le-leb _ _ a.zones) (le-leb _ _ a.level)))

pub record Met (r : Rule) (k : ℕ) (g : Gauges) (e : ℕ) : Type 0 where
  pub ticket : r.ticket ≡ k
  pub event : event_among r.events e ≡ true
  pub minima : AtMost r.minima g

pub met_tells : (r : Rule) (k : ℕ) (g : Gauges) (e : ℕ) → met r k g e ≡ true → Met r k g e
met_tells r k g e t =
    let a = and_parts (r.ticket == k) (event_among r.events e && at_least r.minima g) t in
    let b = and_parts (event_among r.events e) (at_least r.minima g) a.1 in
    record { ticket = eqb-true _ _ a.0; event = b.0; minima = at_least_tells r.minima g b.1 }

pub met_from : (r : Rule) (k : ℕ) (g : Gauges) (e : ℕ) → Met r k g e → met r k g e ≡ true
met_from r k g e m =
    and_from _ _ (eq-eqb r.ticket k m.ticket) (and_from _ _ m.event (at_least_from r.minima g m.minima))

met_rises : (r : Rule) (k : ℕ) (g h : Gauges) (e : ℕ) → AtMost g h → met r k g e ≡ true → met r k h e ≡ true
met_rises r k g h e a t =
    let m = met_tells r k g e t in
    met_from r k h e (record { ticket = m.ticket; event = m.event; minima = at_most_trans {f = r.minima} {g = g} {h = h} m.minima a })

-- ---- the next ticket

raised_ge : (r : Rule) (k : ℕ) (g : Gauges) (e held : ℕ) → held ≤ cond (met r k g e) (max held r.target) held
raised_ge r k g e held = cond_both (met r k g e) (max held r.target) held (λ x. held ≤ x) (λ _. omega arith) (λ _. omega arith)

pub next_ge : (rs : List Rule) (k : ℕ) (g : Gauges) (e held : ℕ) → held ≤ next_from rs k g e held
next_ge [] k g e held = omega arith
next_ge (r ∷ rs) k g e held =
    omega (arith, raised_ge r k g e held, next_ge rs k g e (cond (met r k g e) (max held r.target) held))

-- no less than the target of a met rule
pub next_met : (rs : List Rule) (k : ℕ) (g : Gauges) (e held t : ℕ) → SomeRule (λ r. (met r k g e ≡ true) × (t ≤ r.target)) rs → t ≤ next_from rs k g e held
next_met [] k g e held t s = absurd s
next_met (r ∷ rs) k g e held t (inl h) =
    omega (arith, h.1, cond-true (met r k g e) (max held r.target) held h.0, next_ge rs k g e (cond (met r k g e) (max held r.target) held))
next_met (r ∷ rs) k g e held t (inr s) = next_met rs k g e (cond (met r k g e) (max held r.target) held) t s

le_or_lt : (a b : ℕ) → (a ≤ b) ⊎ (b < a)
le_or_lt a b = ⊎_elim {C = (a ≤ b) ⊎ (b < a)} inr inl (cases_lt b a)

-- what was held, or the target of a met rule
pub next_cases : (rs : List Rule) (k : ℕ) (g : Gauges) (e held : ℕ)
    → (next_from rs k g e held ≡ held) ⊎ SomeRule (λ r. (met r k g e ≡ true) × (r.target ≡ next_from rs k g e held)) rs
next_cases [] k g e held = inl refl
next_cases (r ∷ rs) k g e held = pick (next_cases rs k g e (cond (met r k g e) (max held r.target) held))
  where
    to : ℕ
    to = next_from rs k g e (cond (met r k g e) (max held r.target) held)

    Goal : Type 0
    Goal = (to ≡ held) ⊎ ((met r k g e ≡ true) × (r.target ≡ to)) ⊎ SomeRule (λ q. (met q k g e ≡ true) × (q.target ≡ to)) rs

    higher : met r k g e ≡ true → to ≡ max held r.target → (r.target ≤ held) ⊎ (held < r.target) → Goal
    higher t is (inl h) = inl (omega arith)
    higher t is (inr h) = inr (inl (t, omega arith))

    first : to ≡ cond (met r k g e) (max held r.target) held → (met r k g e ≡ true) ⊎ (met r k g e ≡ false) → Goal
    first is (inl t) = higher t (is ∙ cond-true (met r k g e) (max held r.target) held t) (le_or_lt r.target held)
    first is (inr f) = inl (is ∙ cond-false (met r k g e) (max held r.target) held f)

    pick : (to ≡ cond (met r k g e) (max held r.target) held) ⊎ SomeRule (λ q. (met q k g e ≡ true) × (q.target ≡ to)) rs → Goal
    pick (inl is) = first is (cases_Bool (met r k g e))
    pick (inr s) = inr (inr s)

-- No lower at gauges no lower: by induction over the rules. A rule that is met stays met, and what is held only rises.
pub next_rises : (rs : List Rule) (k : ℕ) (g h : Gauges) (e p q : ℕ) → AtMost g h → p ≤ q → next_from rs k g e p ≤ next_from rs k h e q
next_rises [] k g h e p q a le = le
next_rises (r ∷ rs) k g h e p q a le =
    next_rises rs k g h e (cond (met r k g e) (max p r.target) p) (cond (met r k h e) (max q r.target) q) a (held (cases_Bool (met r k g e)))
  where
    held : (met r k g e ≡ true) ⊎ (met r k g e ≡ false) → cond (met r k g e) (max p r.target) p ≤ cond (met r k h e) (max q r.target) q
    held (inl t) =
        omega (arith, cond-true (met r k g e) (max p r.target) p t, cond-true (met r k h e) (max q r.target) q (met_rises r k g h e a t))
    held (inr f) = omega (arith, cond-false (met r k g e) (max p r.target) p f, raised_ge r k h e q)

-- an event that is none changes nothing
pub next_idle : (rs : List Rule) (k : ℕ) (g : Gauges) (e held : ℕ) → 16 ≤ e → next_from rs k g e held ≡ held
next_idle [] k g e held h = refl
next_idle (r ∷ rs) k g e held h =
    next_idle rs k g e (cond (met r k g e) (max held r.target) held) h
    ∙ cond-false (met r k g e) (max held r.target) held (unmet (cases_Bool (met r k g e)))
  where
    unmet : (met r k g e ≡ true) ⊎ (met r k g e ≡ false) → met r k g e ≡ false
    unmet (inl t) =
        let a = and_parts (nat_lt e 16) (r.events / 2 ^ e % 2 == 1) (met_tells r k g e t).event in
        absurd (omega (arith, ltb-true e 16 a.0))
    unmet (inr f) = f

pub next_leads : (rs : List Rule) (k : ℕ) (g : Gauges) (e : ℕ) → (ticket_after rs k g e ≡ k) ⊎ Leads rs k (ticket_after rs k g e)
next_leads rs k g e =
    ⊎_elim {C = (ticket_after rs k g e ≡ k) ⊎ Leads rs k (ticket_after rs k g e)} inl
    (λ s. inr (some_weaker (λ r m. ((met_tells r k g e m.0).ticket, m.1)) rs s)) (next_cases rs k g e k)

pub next_reached : (rs : List Rule) (k : ℕ) (g : Gauges) (e : ℕ) → Reaches rs k (ticket_after rs k g e)
next_reached rs k g e =
    ⊎_elim {C = Reaches rs k (ticket_after rs k g e)} (λ i. subst (λ (x : ℕ). Reaches rs k x) (sym i) stays) (λ s. goes s stays) (next_leads rs k g e)
