use Rattle.std.proofs.Common.{ap}
use Rattle.ferry_cases.specs.FerryCases.{told, read_from, reading_case}
use Rattle.ferry_cases.proofs.CasesRun.{reading_holds, was_read}
use Rattle.ferry_cases.proofs.running.read_case.Goals as goal

pub returns : goal.returns
unfolding read_from
returns c = was_read (reading_case c.args.case) (reading_holds c.args.case) c.bytes.result.now c.bytes.ensures c.read.result (ap told c.read.ensures.answer)
