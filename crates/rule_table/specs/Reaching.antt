-- Reaching, in a table whose rules rise and stay within its tickets: it rises, it stays within, and the test decides it.
-- Assumes nothing.
use Rattle.std.specs.Prelude.{◌≡◌, ℕ, zero, suc, ◌+◌, ◌<◌, ◌≤◌, Bool, true, ◌&&◌, ◌⊎◌, List, [], ◌∷◌, Decides, ◌==◌}
use Rattle.std.proofs.Common.{inl, inr, ⊎_elim, sym, subst, arith}
use Rattle.std.proofs.Math.Path.{refl}
use Rattle.std.proofs.lemmas.Bool.{eqb-true, eq-eqb, or_cases, or_left, or_right}
use Rattle.std.proofs.lemmas.Bool.Decides.{Decides-eqb, Decides-and}
use Rattle.rule_table.specs.CoverTests.{some_rule, reaches_in, reaches_ticket}
use Rattle.rule_table.specs.Rules.{SomeRule, Leads, Reaches}
use Rattle.rule_table.specs.Rules.Reaches.{stays, goes}
use Rattle.rule_table.specs.declared.rule.Rule.{Rule}
use Rattle.rule_table.specs.Bounded.{decides_rule, some_weaker}

pub decides_itself : (b : Bool) → Decides b (b ≡ true)
decides_itself b = (λ t. t, λ t. t)

-- a rule from k to a ticket with Q is a rule from k, with Q of its target
pub lead_to : (Q : ℕ → Type 0) (rs : List Rule) (k : ℕ) → SomeRule (λ r. (r.ticket ≡ k) × Q r.target) rs → (p : ℕ) × Leads rs k p × Q p
lead_to Q [] k s = absurd s
lead_to Q (r ∷ rs) k (inl h) = (r.target, inl (h.0, refl), h.1)
lead_to Q (r ∷ rs) k (inr s) = let t = lead_to Q rs k s in (t.0, inr t.1, t.2)

pub lead_from : (Q : ℕ → Type 0) (rs : List Rule) (k p : ℕ) → Leads rs k p → Q p → SomeRule (λ r. (r.ticket ≡ k) × Q r.target) rs
lead_from Q rs k p s q = some_weaker (λ r h. (h.0, subst Q (sym h.1) q)) rs s

pub reaches_trans : {rs : List Rule} {j k l : ℕ} → Reaches rs j k → Reaches rs k l → Reaches rs j l
reaches_trans stays t = t
reaches_trans (goes s r) t = goes s (reaches_trans r t)

pub reaches_split : {rs : List Rule} {k l : ℕ} → Reaches rs k l → (k ≡ l) ⊎ ((p : ℕ) × Leads rs k p × Reaches rs p l)
reaches_split stays = inl refl
reaches_split (goes {p = p} s r) = inr (p, s, r)

-- the test finds only what is reached
pub reaches_sound : (rs : List Rule) (d k l : ℕ) → reaches_in rs d k l ≡ true → Reaches rs k l
unfolding reaches_in
reaches_sound rs zero k l t = subst (λ (x : ℕ). Reaches rs k x) (eqb-true k l t) stays
reaches_sound rs (suc d) k l t =
    ⊎_elim {C = Reaches rs k l} (λ h. subst (λ (x : ℕ). Reaches rs k x) (eqb-true k l h) stays)
    (λ h. let s = lead_to (λ p. reaches_in rs d p l ≡ true) rs k (steps.0 h) in goes s.1 (reaches_sound rs d s.0 l s.2))
    (or_cases (k == l) (some_rule (λ r. (r.ticket == k) && reaches_in rs d r.target l) rs) t)
  where
    steps : Decides (some_rule (λ r. (r.ticket == k) && reaches_in rs d r.target l) rs) (SomeRule (λ r. (r.ticket ≡ k) × (reaches_in rs d r.target l ≡ true)) rs)
    steps = decides_rule _ _ (λ r. Decides-and (r.ticket == k) (reaches_in rs d r.target l) (Decides-eqb r.ticket k) (decides_itself (reaches_in rs d r.target l))) rs

module _ (count : ℕ) (rs : List Rule) (rising : (k p : ℕ) → Leads rs k p → (k < p) × (p < count)) where
  pub reaches_le : {k l : ℕ} → Reaches rs k l → k ≤ l
  reaches_le stays = omega arith
  reaches_le (goes {k = k} {p = p} s r) = omega (arith, (rising k p s).0, reaches_le r)

  pub reaches_within : {k l : ℕ} → Reaches rs k l → k < count → l < count
  reaches_within stays h = h
  reaches_within (goes {k = k} {p = p} s r) h = reaches_within r (rising k p s).1

  -- the test finds all that is reached: each step leaves a ticket behind
  pub reaches_complete : {k l : ℕ} → Reaches rs k l → (d : ℕ) → count ≤ d + k → reaches_in rs d k l ≡ true
  unfolding reaches_in
  reaches_complete (stays {k = k}) zero h = eq-eqb k k refl
  reaches_complete (stays {k = k}) (suc d) h = or_left (k == k) _ (eq-eqb k k refl)
  reaches_complete (goes {k = k} {p = p} {l = l} s r) zero h = absurd (omega (arith, (rising k p s).0, (rising k p s).1))
  reaches_complete (goes {k = k} {p = p} {l = l} s r) (suc d) h =
      or_right (k == l) _
      ((decides_rule _ _ (λ r. Decides-and (r.ticket == k) (reaches_in rs d r.target l) (Decides-eqb r.ticket k) (decides_itself (reaches_in rs d r.target l))) rs).1
      (lead_from (λ x. reaches_in rs d x l ≡ true) rs k p s (reaches_complete r d (omega (arith, (rising k p s).0)))))

  pub decides_reaches : count ≤ 32 → (k l : ℕ) → Decides (reaches_ticket rs k l) (Reaches rs k l)
  unfolding reaches_ticket
  decides_reaches few k l = (reaches_sound rs 32 k l, λ r. reaches_complete r 32 (omega arith))
