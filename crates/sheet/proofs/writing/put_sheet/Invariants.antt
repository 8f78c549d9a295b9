use Rattle.std.proofs.Common.{◌≡◌, ◌+◌, length, take}
use Rattle.std.specs.List.{flat_map}
use Rattle.sheet.specs.Format.{encode_row}
use Rattle.sheet.specs.Outcome.{pasted}
use Rattle.sheet.proofs.writing.put_sheet.Given as goal

-- the rows passed are written behind the count
abbrev pub invariant-loop-row : goal.invariant-loop-row
invariant-loop-row l =
    (l.end ≡ 1 + length (flat_map encode_row (take l.row-index l.rows)))
    × (l.sheet ≡ pasted 1 (flat_map encode_row (take l.row-index l.rows)) l.initial.sheet)
