-- Tests of all numbers below a bound, of some, and of some rule.
-- Assumes nothing.
use Rattle.std.specs.Prelude.{◌≡◌, ℕ, zero, suc, ◌+◌, ◌<◌, ◌≤◌, Bool, true, false, ◌⊎◌, List, [], ◌∷◌, Decides, ◌≢◌, refl}
use Rattle.std.proofs.Common.{inl, inr, ⊎_elim, ap, subst, ◌∙◌, arith}
use Rattle.std.proofs.lemmas.Bool.{cases_Bool, cases_eq, both_ways}
use Rattle.std.proofs.lemmas.Bool.Decides.{Decides-below_and, Decides-below_or, Decides-or}
use Rattle.rule_table.specs.CoverTests.{each_below, some_below, some_rule}
use Rattle.rule_table.specs.Rules.{SomeRule}
use Rattle.rule_table.specs.declared.rule.Rule.{Rule}

pub decides_all : (p : ℕ → Bool) (P : ℕ → Type 0) → ((k : ℕ) → Decides (p k) (P k)) → (n : ℕ) → Decides (each_below p n) ((k : ℕ) → k < n → P k)
unfolding each_below
decides_all p P each n = Decides-below_and p P (each_below p) each refl (λ _. refl) n

pub decides_some : (p : ℕ → Bool) (P : ℕ → Type 0) → ((k : ℕ) → Decides (p k) (P k)) → (n : ℕ) → Decides (some_below p n) ((k : ℕ) × (k < n) × P k)
unfolding some_below
decides_some p P each n = Decides-below_or p P (some_below p) each refl (λ _. refl) n

pub decides_rule : (p : Rule → Bool) (P : Rule → Type 0) → ((r : Rule) → Decides (p r) (P r)) → (rs : List Rule) → Decides (some_rule p rs) (SomeRule P rs)
decides_rule p P each [] = (λ e. absurd (false_is e), λ e. absurd e)
  where
    false_is : false ≡ true → ⊥
    false_is e = grind arith
decides_rule p P each (r ∷ rs) = Decides-or (p r) (some_rule p rs) (each r) (decides_rule p P each rs)

-- what holds of some rule, made weaker
pub some_weaker : {P Q : Rule → Type 0} → ((r : Rule) → P r → Q r) → (rs : List Rule) → SomeRule P rs → SomeRule Q rs
some_weaker f [] s = s
some_weaker {P} {Q} f (r ∷ rs) s = ⊎_elim {C = Q r ⊎ SomeRule Q rs} (λ h. inl (f r h)) (λ h. inr (some_weaker f rs h)) s

-- the first number from m on that passes, where m + d does
pub least : (p : ℕ → Bool) (d m : ℕ) → p (m + d) ≡ true
    → (x : ℕ) × (m ≤ x) × (x ≤ m + d) × (p x ≡ true) × ((y : ℕ) → m ≤ y → y < x → p y ≢ true)
least p zero m h = (m + 0, omega arith, omega arith, h, λ y a b _. omega arith)
least p (suc d) m h = pick (cases_Bool (p m)) (least p d (m + 1) (subst (λ (n : ℕ). p n ≡ true) shift h))
  where
    shift : m + suc d ≡ m + 1 + d
    shift = omega arith

    pick : (p m ≡ true) ⊎ (p m ≡ false)
        → (x : ℕ) × (m + 1 ≤ x) × (x ≤ m + 1 + d) × (p x ≡ true) × ((y : ℕ) → m + 1 ≤ y → y < x → p y ≢ true)
        → (x : ℕ) × (m ≤ x) × (x ≤ m + suc d) × (p x ≡ true) × ((y : ℕ) → m ≤ y → y < x → p y ≢ true)
    pick (inl t) r = (m, omega arith, omega arith, t, λ y a b _. omega arith)
    pick (inr f) r = (r.0, omega (arith, r.1), omega (arith, r.2), r.3, earlier)
      where
        earlier : (y : ℕ) → m ≤ y → y < r.0 → p y ≢ true
        earlier y a b t =
            ⊎_elim {C = ⊥} (λ e. both_ways (p m) f (ap p e ∙ t)) (λ ne. r.4 y (omega arith) b t) (cases_eq m y)
