-- A mask holds the numbers that it is made of.
-- Assumes nothing.
use Rattle.std.specs.Prelude.{◌≡◌, ℕ, zero, suc, ◌+◌, ◌-◌, ◌*◌, ◌/◌, ◌%◌, ◌^◌, ◌<◌, ◌≤◌, Bool, true, false, cond, ◌&&◌, ◌⊎◌, ◌==◌, bit_or, nat_eq, refl}
use Rattle.std.proofs.Common.{inl, inr, sym, ap, ap₂, subst, ◌∙◌, pow-suc, add-one, arith}
use Rattle.std.specs.Int.{bit_at}
use Rattle.std.specs.Int.Bits.{or_shifted_r}
use Rattle.std.proofs.lemmas.Nat.{one_shl}
use Rattle.std.proofs.lemmas.Nat.Bits.{bit_at_cat_low, bit_at_cat_high, bit_at_above}
use Rattle.std.proofs.lemmas.Bool.{cond_both, cases_lt, lt-ltb, eq-eqb, ne_eqb}
use Rattle.rule_table.specs.Masks.{mask_of, ticket_listed}

pub mask_lt : (p : ℕ → Bool) (n : ℕ) → mask_of p n < 2 ^ n
unfolding mask_of
mask_lt p zero = omega arith
mask_lt p (suc n) =
    let c : cond (p n) (2 ^ n) 0 ≤ 2 ^ n = cond_both (p n) (2 ^ n) 0 (λ x. x ≤ 2 ^ n) (λ _. omega arith) (λ _. omega arith) in
    omega (arith, mask_lt p n, pow-suc 2 n)

pub mask_start : (p : ℕ → Bool) → 0 ≡ mask_of p 0
unfolding mask_of
mask_start p = refl

pub mask_more : (p : ℕ → Bool) (n mask to : ℕ) (b : Bool) → mask ≡ mask_of p n → b ≡ p n → to ≡ mask + cond b (2 ^ n) 0 → to ≡ mask_of p (n + 1)
unfolding mask_of
mask_more p n mask to b is t e = e ∙ ap₂ (λ (x : ℕ) (y : Bool). x + cond y (2 ^ n) 0) is t ∙ sym (ap (mask_of p) (add-one n))

pub mask_done : (p : ℕ → Bool) (n mask : ℕ) → n ≤ 32 → 32 ≤ n → mask ≡ mask_of p n → mask ≡ mask_of p 32
mask_done p n mask le ge is = let e : n ≡ 32 = omega arith in is ∙ ap (mask_of p) e

-- a bit above all that is set
pub or_bit : (mask n : ℕ) → n < 32 → mask < 2 ^ n → bit_or mask ((1 * 2 ^ n) % 2 ^ 32) ≡ mask + 2 ^ n
or_bit mask n h lt =
    ap (bit_or mask) (one_shl n 32 h ∙ sym (omega arith)) ∙ or_shifted_r 1 n mask lt ∙ omega arith

pub mask_ext : (p q : ℕ → Bool) (n : ℕ) → ((l : ℕ) → l < n → p l ≡ q l) → mask_of p n ≡ mask_of q n
unfolding mask_of
mask_ext p q zero h = refl
mask_ext p q (suc n) h = ap₂ (λ (x : ℕ) (y : Bool). x + cond y (2 ^ n) 0) (mask_ext p q n (λ l i. h l (omega arith))) (h n (omega arith))

-- a bit at n leaves those below it, and stands above them
with_bit : (a n : ℕ) → a + 2 ^ n ≡ 1 * 2 ^ n + a
with_bit a n = omega arith

pub bit_of : (p : ℕ → Bool) (n l : ℕ) → l < n → mask_of p n / 2 ^ l % 2 ≡ cond (p l) 1 0
unfolding mask_of
bit_of p zero l h = absurd (omega arith)
bit_of p (suc n) l h = pick (cases_lt l n) (bit_of p n l)
  where
    lower : l < n → (b : Bool) → bit_at (mask_of p n + cond b (2 ^ n) 0) l ≡ bit_at (mask_of p n) l
    lower lt true = ap (λ (x : ℕ). bit_at x l) (with_bit (mask_of p n) n) ∙ bit_at_cat_low 1 n (mask_of p n) l lt
    lower lt false = ap (λ (x : ℕ). bit_at x l) (omega arith)

    top : (b : Bool) → bit_at (mask_of p n + cond b (2 ^ n) 0) n ≡ cond b 1 0
    top true =
        let here : n - n ≡ 0 = omega arith in
        ap (λ (x : ℕ). bit_at x n) (with_bit (mask_of p n) n) ∙ bit_at_cat_high 1 n (mask_of p n) n (mask_lt p n) (omega arith)
        ∙ ap (bit_at 1) here
    top false = ap (λ (x : ℕ). bit_at x n) (omega arith) ∙ bit_at_above (mask_of p n) n n (mask_lt p n) (omega arith)

    pick : (l < n) ⊎ (n ≤ l) → (l < n → mask_of p n / 2 ^ l % 2 ≡ cond (p l) 1 0) → (mask_of p n + cond (p n) (2 ^ n) 0) / 2 ^ l % 2 ≡ cond (p l) 1 0
    pick (inl lt) ih = lower lt (p n) ∙ ih lt
    pick (inr ge) ih = let e : n ≡ l = omega arith in subst (λ (x : ℕ). (mask_of p n + cond (p n) (2 ^ n) 0) / 2 ^ x % 2 ≡ cond (p x) 1 0) e (top (p n))

pub has_mask : (p : ℕ → Bool) (l : ℕ) → l < 32 → ticket_listed (mask_of p 32) l ≡ p l
has_mask p l h = ap₂ ◌&&◌ (lt-ltb l 32 h) (ap (λ (x : ℕ). nat_eq x 1) (bit_of p 32 l h) ∙ told (p l))
  where
    told : (b : Bool) → (cond b 1 0 == 1) ≡ b
    told true = refl
    told false = refl

-- ---- the empty set, and one member

pub mask_none : (p : ℕ → Bool) (n : ℕ) → ((l : ℕ) → l < n → p l ≡ false) → mask_of p n ≡ 0
unfolding mask_of
mask_none p zero h = refl
mask_none p (suc n) h =
    ap₂ (λ (x : ℕ) (y : Bool). x + cond y (2 ^ n) 0) (mask_none p n (λ l i. h l (omega arith))) (h n (omega arith))

pub mask_one : (k n : ℕ) → k < n → mask_of (nat_eq k) n ≡ 2 ^ k
unfolding mask_of
mask_one k zero h = absurd (omega arith)
mask_one k (suc n) h = pick (cases_lt k n) (mask_one k n)
  where
    pick : (k < n) ⊎ (n ≤ k) → (k < n → mask_of (nat_eq k) n ≡ 2 ^ k) → mask_of (nat_eq k) n + cond (k == n) (2 ^ n) 0 ≡ 2 ^ k
    pick (inl lt) ih = ap₂ (λ (x : ℕ) (y : Bool). x + cond y (2 ^ n) 0) (ih lt) (ne_eqb k n (λ e. omega arith)) ∙ omega arith
    pick (inr ge) ih =
        let e : k ≡ n = omega arith in
        ap₂ (λ (x : ℕ) (y : Bool). x + cond y (2 ^ n) 0) (mask_none (nat_eq k) n (λ l i. ne_eqb k l (λ q. omega arith))) (eq-eqb k n e)
        ∙ omega arith ∙ ap (λ (x : ℕ). 2 ^ x) (sym e)
