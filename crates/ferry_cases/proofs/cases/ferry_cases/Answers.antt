use Rattle.ferry_cases.proofs.Computed.{ferry_cases}
use Rattle.ferry_cases.proofs.cases.ferry_cases.Goals as goal

pub returns : goal.returns
returns c = ferry_cases
