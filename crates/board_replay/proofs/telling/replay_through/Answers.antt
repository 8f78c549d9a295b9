use Rattle.std.proofs.lemmas.Result.{err_from_is_err_and}
use Rattle.std.specs.Io.Buffered.{writer_contents}
use Rattle.board_replay.specs.Streams.{place}
use Rattle.board_replay.proofs.Flushing.{flushed, front_written}
use Rattle.board_replay.proofs.telling.replay_through.Goals as goal

pub returns-in_err-flush-clause-recorded : goal.returns-in_err-flush-clause-recorded
returns-in_err-flush-clause-recorded g c =
    let p = err_from_is_err_and c.from_residual.result c.from_residual.ensures.1 in
    let start = place g.R.Read.remaining c.args.lines.now in
    let after = place g.R.Read.remaining c.replay-ended.new.lines in
    let old = writer_contents g.W.Write.contents c.args.out.now in
    let new = writer_contents g.W.Write.contents c.flush.new.self in
    rw (p.1, p.2) (front_written start c.replay-ended.result after old new
    (flushed start c.replay-ended.result after old (writer_contents g.W.Write.contents c.replay-ended.new.out) new c.replay-ended.ensures.recorded c.flush.ensures.bytes))
