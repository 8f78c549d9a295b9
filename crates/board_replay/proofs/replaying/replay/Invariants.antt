use Rattle.std.proofs.Common.{IfSome}
use Rattle.board_replay.specs.Streams.{place, left_at, count_at, lines_ahead}
use Rattle.board_replay.proofs.FirstBoard.{OnFile}
use Rattle.board_replay.proofs.replaying.replay.Given as goal

abbrev pub invariant-loop-name : goal.invariant-loop-name
invariant-loop-name g l =
    let start = place g.R.Read.remaining l.fn.lines in
    IfSome (left_at start) (λ all. OnFile all (count_at start) l.is_named (g.W.Write.contents l.fn.out) (place g.R.Read.remaining l.lines) (g.W.Write.contents l.out))

abbrev pub decreases-loop-name : goal.decreases-loop-name
decreases-loop-name g l = lines_ahead (place g.R.Read.remaining l.lines)
