use Rattle.std.proofs.Common.{◌≡◌, ℕ, ◌-◌, ◌≤◌, length, get_or, take}
use Rattle.sheet.specs.Reading.{after, spread, bits}
use Rattle.sheet.proofs.reading.take_places.Given as goal

-- what is still to be read, behind the places passed, is what was to be read at first; the places ahead are 0
abbrev pub invariant-loop-place : goal.invariant-loop-place
invariant-loop-place l =
    (length l.place-items ≡ 6)
    × (after (take l.place-index l.place-items) (spread (bits (6 - l.place-index) l.left) l.rest) ≡ spread (bits 6 l.map) l.packed)
    × ((k : ℕ) → l.place-index ≤ k → get_or l.place-items k 0 ≡ 0)
