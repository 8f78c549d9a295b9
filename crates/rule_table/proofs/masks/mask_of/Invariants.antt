use Rattle.std.proofs.Common.{◌≡◌, ℕ, Bool}
use Rattle.rule_table.specs.Masks.{mask_of}
use Rattle.rule_table.proofs.masks.mask_of.Given as goal

-- the set of those so far that pass
abbrev pub invariant-loop-n : goal.invariant-loop-n
invariant-loop-n g l = (p : ℕ → Bool) → ((n : ℕ) (b : Bool) → g.F.Fn.post l.test (n, tt) b → b ≡ p n) → l.mask ≡ mask_of p l.n
