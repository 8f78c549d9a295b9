-- Sets as the bits of a number: laws of union and inclusion that the logic's library lacks, bit by bit.
-- Assumes nothing.
use Rattle.std.specs.Prelude.{◌≡◌, ℕ, ◌/◌, ◌≤◌, bit_and, bit_or}
use Rattle.std.proofs.Common.{sym, ap, ◌∙◌, zero-le, arith}
use Rattle.std.proofs.Math.Arith.{bin_ind}
use Rattle.std.specs.Int.{bit_at}
use Rattle.std.specs.Int.Bits.{and_step}
use Rattle.std.specs.Int.Count.{ones, ones_step}
use Rattle.std.proofs.lemmas.Nat.{and_shr}
use Rattle.std.proofs.lemmas.Nat.Bits.{bit_at_and, bit_at_or, same_from_bits}

pub or_assoc : (a b c : ℕ) → bit_or (bit_or a b) c ≡ bit_or a (bit_or b c)
or_assoc a b c =
    same_from_bits _ _ (λ i. omega (arith, bit_at_or (bit_or a b) c i, bit_at_or a b i, bit_at_or a (bit_or b c) i, bit_at_or b c i))

-- what is included stays included once the same is added to both
pub or_keeps : (a b c : ℕ) → bit_and a b ≡ a → bit_and (bit_or a c) (bit_or b c) ≡ bit_or a c
or_keeps a b c e =
    same_from_bits _ _
    (λ i. omega (arith, bit_at_and (bit_or a c) (bit_or b c) i, bit_at_or a c i, bit_at_or b c i, bit_at_and a b i, ap (λ (n : ℕ). bit_at n i) e))

-- what is included is included in each half
halves_in : (a b : ℕ) → bit_and a b ≡ a → bit_and (a / 2) (b / 2) ≡ a / 2
halves_in a b e = sym (and_shr a b 1) ∙ ap (λ (x : ℕ). x / 2) e

-- a set has no more members than one that includes it
pub ones_keeps : (a b : ℕ) → bit_and a b ≡ a → ones a ≤ ones b
unfolding ones
ones_keeps =
    bin_ind (λ (n : ℕ). (b : ℕ) → bit_and n b ≡ n → ones n ≤ ones b) (λ b e. zero-le)
    (λ n ih b e. omega (arith, and_step n b, halves_in n b e, ones_step n, ones_step b, ih (b / 2) (halves_in n b e)))
