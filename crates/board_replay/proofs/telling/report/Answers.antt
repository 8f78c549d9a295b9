use Rattle.std.proofs.lemmas.Result.{err_from_is_err_and}
use Rattle.board_replay.proofs.ToldLines.{nothing_told}
use Rattle.board_replay.proofs.telling.report.Goals as goal

pub returns-in_err-line : goal.returns-in_err-line
returns-in_err-line g c =
    let p = err_from_is_err_and c.from_residual.result c.from_residual.ensures.1 in
    rw (c.in-Err.is, p.1) (nothing_told c.in-Err.failure c.args.number (g.E.Write.contents c.args.err.now))
