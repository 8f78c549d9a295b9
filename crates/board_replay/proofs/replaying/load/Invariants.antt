use Rattle.std.proofs.Common.{◌≤◌, IfSome, false}
use Rattle.board_replay.specs.Files.{loaded_from}
use Rattle.board_replay.specs.Loading.{handed}
use Rattle.board_replay.specs.Streams.{place, left_at, count_at, lines_ahead}
use Rattle.board_replay.proofs.Loading.{OnLoad}
use Rattle.board_replay.proofs.replaying.load.Given as goal

abbrev pub invariant-loop-line : goal.invariant-loop-line
invariant-loop-line g l =
    let start = place g.R.Read.remaining l.fn.lines in
    let here = place g.R.Read.remaining l.lines in
    record {
      so_far : IfSome (left_at start) (λ all. OnLoad (loaded_from (handed l.fn.loaded) false all) (count_at start) here (handed l.loaded) l.is_begun);
      ahead : lines_ahead here ≤ lines_ahead start;
    }

abbrev pub decreases-loop-line : goal.decreases-loop-line
decreases-loop-line g l = lines_ahead (place g.R.Read.remaining l.lines)
