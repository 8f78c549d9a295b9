-- Thresholds that are lowered rule by rule, and why nothing is met before one is reached. Assumes nothing.
use Rattle.std.proofs.Common.{◌≡◌, ℕ, zero, suc, ◌+◌, ◌<◌, ◌≤◌, ◌==◌, ◌&&◌, ◌⊎◌, not, Bool, true, false, cond, max, List, [], ◌∷◌, length, get_or, take, set, replicate, sym, refl, ap, ◌∙◌, subst, inl, inr, arith, nat_le, nat_lt}
use Rattle.std.specs.Prelude.{min, fold}
use Rattle.std.proofs.Math.Nat.{min-le_left, min-le_right, mod-lt}
use Rattle.std.proofs.lemmas.Bool.{and_parts, and_from, leb-true, ltb-true, eqb-true, eq-eqb, ne_eqb, cases_eq}
use Rattle.std.proofs.lemmas.List.{get_or-set_same, get_or-set_other, get_or-replicate, length-replicate}
use Rattle.std.proofs.lemmas.List.Sums.{fold_more}
use Rattle.fares.specs.declared.gauges.Gauges.{Gauges}
use Rattle.fares.specs.Limits.{top_reading}
use Rattle.fares.specs.Readings.{largest_readings}
use Rattle.rule_table.specs.declared.rule.Rule.{Rule}
use Rattle.rule_table.specs.Rules.{event_among, at_least, raised_by, next_from}
use Rattle.rule_table.specs.Spans.{spot, spots}
use Rattle.rule_table.specs.Thresholds.{short_of, asks_metres, asks_stops, asks_zones, asks_level, lowered_by, least, Leasts, Thresholds}

pub spot_within : (k : ℕ) → spot k < spots
unfolding spot
spot_within k = mod-lt k (omega arith)

-- One gauge.
module _ (reading : Gauges → ℕ) (asks : Gauges → Bool) where
  abbrev step : ℕ → ℕ → Rule → ℕ
  step = lowered_by reading asks

  pub no_least : reading largest_readings ≡ top_reading → Leasts reading asks (replicate spots largest_readings) []
  no_least e k h = ap reading (get_or-replicate spots k largest_readings largest_readings h) ∙ e

  -- a rule more, for which the thresholds of its spot are lowered
  pub one_least : (ts : List Gauges) (rs : List Rule) (n : ℕ) (r : Rule) (s : ℕ) (old new : Gauges) → length ts ≡ spots → s < spots → n < length rs → r ≡ get_or rs n r → s ≡ spot r.ticket → old ≡ get_or ts s largest_readings
      → reading new ≡ cond (asks r.minima) (min (reading old) (reading r.minima)) (reading old) → Leasts reading asks ts (take n rs) → Leasts reading asks (set ts s new) (take (n + 1) rs)
  one_least ts rs n r s old new sized within there is spot_is old_is new_is before k h =
      elim (cases_eq k s) [
        | inl e ↦
            ap (λ (j : ℕ). reading (get_or (set ts s new) j largest_readings)) e ∙ ap reading (get_or-set_same ts s new largest_readings (omega (arith, sized, within))) ∙ new_is
            ∙ ap (λ (m : ℕ). cond (asks r.minima) (min m (reading r.minima)) m) (ap reading old_is ∙ before s within)
            ∙ sym (ap (λ b. cond (b && asks r.minima) (min (least reading asks s (take n rs)) (reading r.minima)) (least reading asks s (take n rs))) (eq-eqb (spot r.ticket) s (sym spot_is)))
            ∙ ap (λ (j : ℕ). step j (least reading asks j (take n rs)) r) (sym e)
        | inr ne ↦
            ap reading (get_or-set_other ts s k new largest_readings ne) ∙ before k h
            ∙ sym (ap (λ b. cond (b && asks r.minima) (min (least reading asks k (take n rs)) (reading r.minima)) (least reading asks k (take n rs))) (ne_eqb (spot r.ticket) k (λ q. ne (sym q ∙ sym spot_is))))
      ]
      ∙ ap (step k (least reading asks k (take n rs))) is
      ∙ sym (fold_more (step k) top_reading rs n r there)

  lowers : (k : ℕ) (rs : List Rule) (held : ℕ) → fold (step k) held rs ≤ held
  lowers k [] held = omega arith
  lowers k (r ∷ rs) held = let a = lowers k rs (step k held r) in let b = once (spot r.ticket == k && asks r.minima) in omega (arith, a, b)
    where
      once : (b : Bool) → cond b (min held (reading r.minima)) held ≤ held
      once true = min-le_left held (reading r.minima)
      once false = omega arith

  -- no rule that asks there has a lower minimum
  pub least_below : (k : ℕ) (rs : List Rule) (held j : ℕ) (r : Rule) → j < length rs → r ≡ get_or rs j r → spot r.ticket ≡ k → asks r.minima ≡ true → fold (step k) held rs ≤ reading r.minima
  least_below k [] held j r h e s a = absurd (omega (arith, h))
  least_below k (x ∷ rs) held zero r h e s a =
      let here : step k held r ≡ min held (reading r.minima) = ap (λ b. cond b (min held (reading r.minima)) held) (and_from (spot r.ticket == k) (asks r.minima) (eq-eqb (spot r.ticket) k s) a) in
      let low = lowers k rs (step k held r) in
      subst (λ (y : Rule). fold (step k) (step k held y) rs ≤ reading r.minima) e (omega (arith, low, here, min-le_right held (reading r.minima)))
  least_below k (x ∷ rs) held (suc j) r h e s a = least_below k rs (step k held x) j r (omega (arith, h)) e s a

-- All four.
pub no_thresholds : Thresholds (replicate spots largest_readings) []
no_thresholds = record {
  sized = length-replicate spots largest_readings;
  metres = no_least (λ g. g.metres) asks_metres refl;
  stops = no_least (λ g. g.stops) asks_stops refl;
  zones = no_least (λ g. g.zones) asks_zones refl;
  level = no_least (λ g. g.level) asks_level refl;
}

-- some threshold is no higher than the minimum at its gauge
abbrev pub Heeds : Gauges → Gauges → Type 0
Heeds t m = (t.metres ≤ m.metres) ⊎ ((t.stops ≤ m.stops) ⊎ ((t.zones ≤ m.zones) ⊎ (t.level ≤ m.level)))

-- it is that of the gauge at which the rule asks first
pub heeds : (ts : List Gauges) (rs : List Rule) → Thresholds ts rs → (j : ℕ) (r : Rule) → j < length rs → r ≡ get_or rs j r → spot r.ticket < spots → Heeds (get_or ts (spot r.ticket) largest_readings) r.minima
heeds ts rs t j r h e within = go (nat_lt 0 m.metres) (nat_lt 0 m.stops) (nat_lt 0 m.zones) refl refl refl
  where
    m : Gauges
    m = r.minima

    k : ℕ
    k = spot r.ticket

    go : (a b c : Bool) → nat_lt 0 m.metres ≡ a → nat_lt 0 m.stops ≡ b → nat_lt 0 m.zones ≡ c → Heeds (get_or ts k largest_readings) m
    go true b c p q u = inl (let x = least_below (λ g. g.metres) asks_metres k rs top_reading j r h e refl p in let y = t.metres k within in omega (arith, x, y))
    go false true c p q u = inr (inl (let x = least_below (λ g. g.stops) asks_stops k rs top_reading j r h e refl (λ v. not (p v) && q v) in let y = t.stops k within in omega (arith, x, y)))
    go false false true p q u = inr (inr (inl (let x = least_below (λ g. g.zones) asks_zones k rs top_reading j r h e refl (λ v. not (p v) && (not (q v) && u v)) in let y = t.zones k within in omega (arith, x, y))))
    go false false false p q u = inr (inr (inr (let x = least_below (λ g. g.level) asks_level k rs top_reading j r h e refl (λ v. not (p v) && (not (q v) && not (u v))) in let y = t.level k within in omega (arith, x, y))))

module _ (t g : Gauges) (short : short_of t g ≡ true) where
  not_reached : (m : Gauges) → Heeds t m → at_least m g ≡ true → ⊥
  not_reached m h a = go h
    where
      r : (m.metres ≤ g.metres) × (m.stops ≤ g.stops) × (m.zones ≤ g.zones) × (m.level ≤ g.level)
      r =
          let x = and_parts (nat_le m.metres g.metres) _ a in
          let y = and_parts (nat_le m.stops g.stops) _ x.1 in
          let z = and_parts (nat_le m.zones g.zones) _ y.1 in
          (leb-true _ _ x.0, leb-true _ _ y.0, leb-true _ _ z.0, leb-true _ _ z.1)

      below : (g.metres < t.metres) × (g.stops < t.stops) × (g.zones < t.zones) × (g.level < t.level)
      below =
          let p = and_parts (nat_lt g.metres t.metres) _ short in
          let q = and_parts (nat_lt g.stops t.stops) _ p.1 in
          let u = and_parts (nat_lt g.zones t.zones) _ q.1 in
          (ltb-true _ _ p.0, ltb-true _ _ q.0, ltb-true _ _ u.0, ltb-true _ _ u.1)

      go : Heeds t m → ⊥
      go (inl x) = omega (arith, x, r.0, below.0)
      go (inr (inl x)) = omega (arith, x, r.1, below.1)
      go (inr (inr (inl x))) = omega (arith, x, r.2, below.2)
      go (inr (inr (inr x))) = omega (arith, x, r.3, below.3)

-- where no gauge has reached its threshold, no rule of the ticket is met
module _ (ts : List Gauges) (k : ℕ) (g : Gauges) (ev : ℕ) (short : short_of (get_or ts (spot k) largest_readings) g ≡ true) where
  idle : (r : Rule) (held : ℕ) → Heeds (get_or ts (spot r.ticket) largest_readings) r.minima → raised_by r k g ev held ≡ held
  idle r held h = go (r.ticket == k) (event_among r.events ev) (at_least r.minima g) refl refl
    where
      go : (a b c : Bool) → (r.ticket == k) ≡ a → at_least r.minima g ≡ c → cond (a && (b && c)) (max held r.target) held ≡ held
      go false b c p q = refl
      go true false c p q = refl
      go true true false p q = refl
      go true true true p q =
          absurd (not_reached (get_or ts (spot k) largest_readings) g short r.minima (subst (λ (j : ℕ). Heeds (get_or ts (spot j) largest_readings) r.minima) (eqb-true r.ticket k p) h) q)

  pub none_met : (rs : List Rule) (held : ℕ) → ((j : ℕ) (r : Rule) → j < length rs → r ≡ get_or rs j r → Heeds (get_or ts (spot r.ticket) largest_readings) r.minima) → next_from rs k g ev held ≡ held
  none_met [] held all = refl
  none_met (r ∷ rs) held all = ap (next_from rs k g ev) (idle r held (all 0 r (omega arith) refl)) ∙ none_met rs held (λ j x h e. all (suc j) x (omega (arith, h)) e)
