use Rattle.std.proofs.Common.{◌≡◌, ℕ, List, ◌++◌}
use Rattle.sheet.specs.Format.{map_of}
use Rattle.sheet.proofs.writing.map_of.Given as goal

-- what is left stands in front; the map is that of the bytes behind it
abbrev pub invariant-loop-byte : goal.invariant-loop-byte
invariant-loop-byte l =
    (goal.iterator-loop-byte).can_next l.byte-iterator
    × (goal.iterator-loop-byte).is_finite l.byte-iterator
    × ((behind : List ℕ) × (l.bytes ≡ l.byte-iterator.iter.rest.now ++ behind) × (l.map ≡ map_of behind))
