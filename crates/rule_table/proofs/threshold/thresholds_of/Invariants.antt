use Rattle.std.proofs.Common.{take}
use Rattle.rule_table.specs.Thresholds.{Thresholds}
use Rattle.rule_table.proofs.threshold.thresholds_of.Given as goal

abbrev pub invariant-loop-rule : goal.invariant-loop-rule
invariant-loop-rule l = Thresholds l.thresholds (take l.rule-index l.rules)
