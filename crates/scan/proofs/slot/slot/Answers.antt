use Rattle.std.proofs.Common.{refl}
use Rattle.scan.specs.Chains.{slot}
use Rattle.scan.proofs.slot.slot.Goals as goal

pub returns-clause-is : goal.returns-clause-is
unfolding slot
returns-clause-is c = refl
