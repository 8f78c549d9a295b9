use Rattle.std.proofs.Common.{◌≡◌, ◌++◌, take}
use Rattle.std.specs.List.{flat_map}
use Rattle.records.specs.Records.{leg_line}
use Rattle.records.proofs.legs.write_legs.Given as goal

-- the legs passed are written
abbrev pub invariant-loop-leg : goal.invariant-loop-leg
invariant-loop-leg l = l.out.items ≡ l.fn.out.items ++ flat_map leg_line (take l.leg-index l.legs)
