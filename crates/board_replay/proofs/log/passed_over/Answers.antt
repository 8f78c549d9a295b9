use Rattle.std.proofs.Common.{refl}
use Rattle.board_replay.proofs.log.passed_over.Goals as goal

pub returns-in-Case : goal.returns-in-Case
returns-in-Case c = rw c.in-Case.is (c.in-Case.name, refl, refl)
