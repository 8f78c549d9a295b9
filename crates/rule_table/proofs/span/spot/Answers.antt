use Rattle.std.proofs.Common.{refl}
use Rattle.rule_table.specs.Spans.{spot}
use Rattle.rule_table.proofs.span.spot.Goals as goal

pub returns-clause-is : goal.returns-clause-is
unfolding spot
returns-clause-is c = refl
