use Rattle.std.proofs.Common.{◌≤◌, None, IfSome}
use Rattle.board_replay.specs.Replays.{skipped}
use Rattle.board_replay.specs.Streams.{place, left_at, count_at, lines_ahead}
use Rattle.board_replay.proofs.Onward.{Onward}
use Rattle.board_replay.proofs.log.skip.Given as goal

abbrev pub invariant-loop-line : goal.invariant-loop-line
invariant-loop-line g l =
    let start = place g.R.Read.remaining l.fn.lines in
    let here = place g.R.Read.remaining l.lines in
    record {
      so_far : IfSome (left_at start) (λ all. Onward all (count_at start) skipped None here skipped None);
      ahead : lines_ahead here ≤ lines_ahead start;
    }

abbrev pub decreases-loop-line : goal.decreases-loop-line
decreases-loop-line g l = lines_ahead (place g.R.Read.remaining l.lines)
