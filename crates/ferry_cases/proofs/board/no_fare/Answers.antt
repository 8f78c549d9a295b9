use Rattle.std.proofs.Common.{refl, ap}
use Rattle.measures.specs.declared.weights.ZoneSet.{ZoneSet}
use Rattle.measures.specs.SameWeights.{same_zones}
use Rattle.ferry_cases.specs.FerryBoard.{FerryState, no_fare}
use Rattle.ferry_cases.proofs.board.no_fare.Goals as goal

pub returns : goal.returns
returns c = ap (λ (w : ZoneSet). let fare : FerryState = record { ticket = no_fare.ticket; weight = w } in fare) (same_zones refl)
