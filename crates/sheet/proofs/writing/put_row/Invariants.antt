use Rattle.std.proofs.Common.{◌≡◌, ◌+◌, length, take}
use Rattle.sheet.specs.Format.{standing}
use Rattle.sheet.specs.Outcome.{pasted}
use Rattle.sheet.proofs.writing.put_row.Given as goal

-- what stands of the bytes passed is written behind the map
abbrev pub invariant-loop-byte : goal.invariant-loop-byte
invariant-loop-byte l =
    (l.end ≡ l.at + 1 + length (standing (take l.byte-index l.byte-items)))
    × (l.sheet ≡ pasted (l.at + 1) (standing (take l.byte-index l.byte-items)) l.initial.sheet)
