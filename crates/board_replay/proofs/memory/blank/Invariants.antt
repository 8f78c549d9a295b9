use Rattle.std.proofs.Common.{◌≡◌, replicate}
use Rattle.board_replay.proofs.memory.blank.Given as goal

abbrev pub invariant-loop : goal.invariant-loop
invariant-loop g l = l.blank.items ≡ replicate l.counter l.value
