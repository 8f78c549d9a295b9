use Rattle.std.proofs.Common.{◌≡◌, ◌+◌, ◌<◌, ℕ, Bool, length}
use Rattle.rule_table.specs.Masks.{mask_of, MaskRowsFrom}
use Rattle.rule_table.proofs.masks.masks_of.Given as goal

-- the sets from ticket k on are made
abbrev pub invariant-loop-k : goal.invariant-loop-k
invariant-loop-k g l =
    (length l.masks ≡ 32)
    × ((p : ℕ → ℕ → Bool)
    → ((above : _) (k mask : ℕ) → k < 32 → MaskRowsFrom (k + 1) p above.now → g.F.Fn.post l.set (above, (k, tt)) mask → mask ≡ mask_of (p k) 32)
    → MaskRowsFrom l.k p l.masks)
