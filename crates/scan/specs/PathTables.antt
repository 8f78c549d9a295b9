-- A table of footpaths by the slots of the stops that they begin at: where each slot begins, and the next in the slot of each.
-- Assumes nothing. It has the first 4,096 of them.
use Rattle.std.specs.Prelude.{◌≡◌, ℕ, suc, ◌<◌, List, ◌∷◌, length, take, drop, get_or, None, Option}
use Rattle.journeys.specs.declared.network.Footpath.{Footpath}
use Rattle.scan.specs.Chains.{slot, slots, first_in}

pub record Tabled (paths : List Footpath) (first next : List (Option ℕ)) : Type 0 where
  pub firsts : length first ≡ slots
  pub nexts : length next ≡ slots
  pub first_of : (k : ℕ) → k < slots → get_or first k None ≡ first_in (λ p. p.from) k 0 (take slots paths)
  pub next_of : (i : ℕ) (x : Footpath) → drop i (take slots paths) ≡ x ∷ drop (suc i) (take slots paths)
      → get_or next i None ≡ first_in (λ p. p.from) (slot x.from) (suc i) (drop (suc i) (take slots paths))
