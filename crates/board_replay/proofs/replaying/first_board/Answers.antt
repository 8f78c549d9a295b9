use Rattle.std.proofs.Common.{Ok, Err, ap, subst}
use Rattle.std.proofs.lemmas.Result.{err_from_is_err_and}
use Rattle.board_replay.specs.Files.{LoadsOn}
use Rattle.board_replay.specs.Loading.{handed, said_base, said_tariff}
use Rattle.board_replay.specs.Streams.{place}
use Rattle.board_replay.proofs.Counting.{reads_after, loads_failed}
use Rattle.board_replay.proofs.FirstBoard.{board_comes, none_comes, not_loaded}
use Rattle.board_replay.proofs.replaying.first_board.Goals as goal

pub returns-in_err-is_begun : goal.returns-in_err-is_begun
returns-in_err-is_begun g c =
    let p = err_from_is_err_and c.from_residual.result c.from_residual.ensures.1 in
    let start = place g.R.Read.remaining c.args.lines.now in
    let here = place g.R.Read.remaining c.load.new.lines in
    let loads = subst (λ h. LoadsOn h start (Err c.in_err-is_begun.field-0.0) (handed c.load.new.loaded) here) c.nothing-loaded.ensures c.in_err-is_begun.ensures.loads in
    rw (p.1, p.2) record { board = not_loaded start c.args.is_named _ here c.in_err-is_begun.field-0.0 _ loads; lines = loads_failed start here c.in_err-is_begun.field-0.0 c.in_err-is_begun.ensures.lines }

pub returns : goal.returns
returns g c =
    let start = place g.R.Read.remaining c.args.lines.now in
    let here = place g.R.Read.remaining c.load.new.lines in
    let loads = subst (λ h. LoadsOn h start (Ok c.in_ok-is_begun.is_begun) (handed c.load.new.loaded) here) c.nothing-loaded.ensures c.in_ok-is_begun.ensures.loads in
    record {
      board = none_comes start c.args.is_named _ here c.in_ok-is_begun.is_begun loads c.if-is_named-is_begun.false _ _ _ c.skip.ensures.log;
      lines = reads_after start here _ _ c.in_ok-is_begun.ensures.lines c.skip.ensures.lines;
    }

pub returns-then-is_named-is_begun : goal.returns-then-is_named-is_begun
returns-then-is_named-is_begun g c =
    let start = place g.R.Read.remaining c.args.lines.now in
    let here = place g.R.Read.remaining c.load.new.lines in
    let loads = subst (λ h. LoadsOn h start (Ok c.in_ok-is_begun.is_begun) (handed c.load.new.loaded) here) c.nothing-loaded.ensures c.in_ok-is_begun.ensures.loads in
    record {
      board = board_comes start c.args.is_named _ here c.in_ok-is_begun.is_begun loads c.if-is_named-is_begun.true (said_base c.in-Some.base) (ap said_tariff c.in-Some.is) _ _ _ _ c.replay_board.ensures.board;
      lines = reads_after start here _ _ c.in_ok-is_begun.ensures.lines c.replay_board.ensures.lines;
    }
