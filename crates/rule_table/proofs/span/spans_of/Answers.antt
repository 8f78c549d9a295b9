use Rattle.std.proofs.Common.{arith}
use Rattle.rule_table.proofs.Spans.{knows_none, all_spanned}
use Rattle.rule_table.proofs.span.spans_of.Goals as goal

pub loop-place-init : goal.loop-place-init
loop-place-init c = knows_none c.args.rules.now

pub returns : goal.returns
returns c = all_spanned c.loop-place.spans 0 c.args.rules.now (λ j r h e. let z = c.loop-place.invariant.lies j r (omega (arith, h)) e in (omega (arith, z.0), omega (arith, z.1)))
