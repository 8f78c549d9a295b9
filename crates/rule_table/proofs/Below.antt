-- Tests of all numbers below a bound, and of some, as tests of a list of these numbers.
use Rattle.std.proofs.Common.{◌≡◌, ℕ, zero, suc, ◌+◌, Bool, ◌&&◌, ◌||◌, sym, ap, ◌∙◌, add-one, arith}
use Rattle.std.proofs.Math.Bool.{and_comm, and_assoc, and-true, or_comm, or_assoc, or-false}
use Rattle.std.specs.List.{list_all, list_any, range_with_len}
use Rattle.rule_table.specs.CoverTests.{each_below, some_below}

all_on : (p : ℕ → Bool) (a n : ℕ) → (list_all p (range_with_len a n) && each_below p a) ≡ each_below p (a + n)
unfolding each_below
all_on p a zero = ap (each_below p) (sym (omega arith))
all_on p a (suc n) =
    ap (λ (b : Bool). b && each_below p a) (and_comm (p a) (list_all p (range_with_len (a + 1) n)))
    ∙ and_assoc (list_all p (range_with_len (a + 1) n)) (p a) (each_below p a)
    ∙ ap (λ (m : ℕ). list_all p (range_with_len (a + 1) n) && each_below p m) (sym (add-one a))
    ∙ all_on p (a + 1) n
    ∙ ap (each_below p) (omega arith)

any_on : (p : ℕ → Bool) (a n : ℕ) → (list_any p (range_with_len a n) || some_below p a) ≡ some_below p (a + n)
unfolding some_below
any_on p a zero = ap (some_below p) (sym (omega arith))
any_on p a (suc n) =
    ap (λ (b : Bool). b || some_below p a) (or_comm (p a) (list_any p (range_with_len (a + 1) n)))
    ∙ or_assoc (list_any p (range_with_len (a + 1) n)) (p a) (some_below p a)
    ∙ ap (λ (m : ℕ). list_any p (range_with_len (a + 1) n) || some_below p m) (sym (add-one a))
    ∙ any_on p (a + 1) n
    ∙ ap (some_below p) (omega arith)

pub all_below : (p : ℕ → Bool) (n : ℕ) → list_all p (range_with_len 0 n) ≡ each_below p n
unfolding each_below
all_below p n = sym (and-true _) ∙ all_on p 0 n ∙ ap (each_below p) (omega arith)

pub any_below : (p : ℕ → Bool) (n : ℕ) → list_any p (range_with_len 0 n) ≡ some_below p n
unfolding some_below
any_below p n = sym (or-false _) ∙ any_on p 0 n ∙ ap (some_below p) (omega arith)
