use Rattle.std.proofs.Common.{sym}
use Rattle.measures.proofs.SameGauges.{shown}
use Rattle.case_lines.proofs.fields.gauges.Goals as goal

pub returns : goal.returns
returns c = sym (shown _)
