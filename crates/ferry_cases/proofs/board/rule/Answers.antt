use Rattle.std.proofs.Common.{arith, refl}
use Rattle.ferry_cases.proofs.Opened.{rule_made}
use Rattle.ferry_cases.proofs.board.rule.Goals as goal

pub returns : goal.returns
returns c = rule_made _ c.args.ticket c.args.target c.args.zones (omega (arith, c.ranges.zones.fits)) refl refl refl refl refl refl refl
