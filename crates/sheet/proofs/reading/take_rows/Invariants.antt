use Rattle.std.proofs.Common.{◌≡◌, ◌-◌, length, None}
use Rattle.short_list.specs.Items.{items}
use Rattle.sheet.specs.Reading.{decode_rows}
use Rattle.sheet.proofs.Sheets.{rows_behind}
use Rattle.sheet.proofs.reading.take_rows.Given as goal

-- what is still to be read, behind the rows found, is what was to be read at first
abbrev pub invariant-loop-k : goal.invariant-loop-k
invariant-loop-k l =
    (length (items l.found) ≡ l.k)
    × (rows_behind (items l.found) (decode_rows (l.k-end - l.k) l.k l.before l.rest) ≡ decode_rows l.k-end 0 None l.initial.rest)
