use Rattle.std.proofs.Common.{take, sym, subst}
use Rattle.std.specs.Io.KnownBytes.{Appends}
use Rattle.board_replay.proofs.Fronts.{front_so_far, front_kept, front_grown, front_still, all_written}
use Rattle.board_replay.proofs.writing.write_whole.Goals as goal
use Rattle.board_replay.proofs.writing.write_whole.Goals.{in-Ok+else-count-eq0, in-Err+else-ne}

pub returns-then-written-text : goal.returns-then-written-text
returns-then-written-text g c = all_written _ _ c.args.text.now c.loop.written c.if-written-text.true c.loop.invariant

pub returns-then-count-eq0 : goal.returns-then-count-eq0
returns-then-count-eq0 g c =
    front_so_far _ (g.W.Write.contents c.write.new.self) (g.W.Write.contents c.write.new.self) c.args.text.now _
    (front_grown _ _ _ c.args.text.now c.loop.written c.loop.invariant c.in-Ok.count c.in-Ok.ensures.bytes)

pub returns-then-ne : goal.returns-then-ne
returns-then-ne g c = front_kept _ _ _ c.args.text.now c.loop.written c.loop.invariant c.in-Err.ensures.bytes

pub loop-preserved : goal.loop-preserved
loop-preserved g c = elim c.match-write.branch [
  | in-Ok+else-count-eq0 w ↦ subst (λ n. Appends (g.W.Write.contents c.args.out.now) (g.W.Write.contents c.write.new.self) (take n c.args.text.now)) (sym w.written-is)
      (front_grown _ _ _ c.args.text.now c.loop.written c.loop.invariant w.in-Ok.count w.in-Ok.ensures.bytes)
  | in-Err+else-ne w ↦ subst (λ n. Appends (g.W.Write.contents c.args.out.now) (g.W.Write.contents c.write.new.self) (take n c.args.text.now)) (sym w.written-is)
      (front_still _ _ _ c.args.text.now c.loop.written c.loop.invariant w.in-Err.ensures.bytes)
]

pub returns : goal.returns
returns g c = front_so_far _ _ (g.W.Write.contents c.loop.out) c.args.text.now c.loop.written c.loop.invariant
