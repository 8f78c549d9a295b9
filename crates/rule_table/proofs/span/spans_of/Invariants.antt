use Rattle.rule_table.proofs.Spans.{Knows}
use Rattle.rule_table.proofs.span.spans_of.Given as goal

abbrev pub invariant-loop-place : goal.invariant-loop-place
invariant-loop-place l = Knows l.spans l.rules l.place
