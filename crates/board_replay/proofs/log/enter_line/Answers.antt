use Rattle.std.proofs.Common.{refl}
use Rattle.board_replay.proofs.log.enter_line.Goals as goal

pub returns-in-Case-clause-turn : goal.returns-in-Case-clause-turn
returns-in-Case-clause-turn g c = rw c.in-Case.is (c.in-Case.name, refl, refl)
