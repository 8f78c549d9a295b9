use Rattle.std.proofs.Common.{◌≡◌, ◌++◌, take, slice_index}
use Rattle.std.specs.List.{flat_map}
use Rattle.records.specs.Records.{hex}
use Rattle.records.proofs.Joining.{spaced_hex}
use Rattle.records.proofs.sheets.write_bytes.Given as goal

-- the bytes passed are written behind the first
abbrev pub invariant-loop-byte : goal.invariant-loop-byte
invariant-loop-byte l =
    l.out.items ≡ (l.fn.out.items ++ hex (slice_index l.fn.bytes 0)) ++ flat_map spaced_hex (take l.byte-index l.rest)
