use Rattle.std.proofs.Common.{◌≡◌, ◌++◌, take, codes}
use Rattle.std.specs.Fmt.{decimal}
use Rattle.std.specs.List.{flat_map}
use Rattle.records.specs.Records.{spaced}
use Rattle.records.proofs.refusing.write_refused.Given as goal

-- the values passed are written behind the number
abbrev pub invariant-loop-value : goal.invariant-loop-value
invariant-loop-value l =
    l.out.items ≡ (l.fn.out.items ++ codes "refused " ++ decimal l.fn.number) ++ flat_map spaced (take l.value-index l.values)
