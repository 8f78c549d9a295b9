use Rattle.std.proofs.Common.{◌≡◌, ◌≤◌, [], IfSome}
use Rattle.planner.specs.Lent.{memory_of}
use Rattle.day_planner.specs.Planners.{day_in, parts_of, basis}
use Rattle.board_replay.specs.Memories.{memory_in}
use Rattle.board_replay.specs.Replays.{log_from}
use Rattle.board_replay.specs.Streams.{place, left_at, count_at, lines_ahead}
use Rattle.board_replay.proofs.Onward.{Onward}
use Rattle.board_replay.proofs.log.run.Given as goal

abbrev pub invariant-loop-text : goal.invariant-loop-text
invariant-loop-text g l =
    let b = basis g.T.Timetable.hops g.F.Tariff.model g.M.Measure.model (parts_of l.fn.planner) l.network in
    let start = place g.R.Read.remaining l.fn.lines in
    let here = place g.R.Read.remaining l.lines in
    record {
      parts : parts_of l.planner ≡ parts_of l.fn.planner;
      empty : l.text.items ≡ [];
      so_far : IfSome (left_at start) (λ all. Onward all (count_at start) (log_from b (day_in l.fn.planner) (memory_in l.fn.memory)) (g.W.Write.contents l.fn.out) here (log_from b (day_in l.planner) (memory_of l.lent)) (g.W.Write.contents l.out));
      ahead : lines_ahead here ≤ lines_ahead start;
    }

abbrev pub decreases-loop-text : goal.decreases-loop-text
decreases-loop-text g l = lines_ahead (place g.R.Read.remaining l.lines)
