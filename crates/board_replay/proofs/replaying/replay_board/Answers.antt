use Rattle.std.proofs.Common.{◌++◌, ℕ, List, Some, Err, Result, Option, Vec, Global, subst, ap, ◌∙◌}
use Rattle.std.proofs.lemmas.Result.{err_from_is_err_and}
use Rattle.std.specs.Io.KnownBytes.{Appends}
use Rattle.records.specs.Records.{opening_record}
use Rattle.board_replay.specs.declared.failure.Failure.{Failure}
use Rattle.board_replay.specs.Boards.{opened_by, Opens}
use Rattle.board_replay.specs.Loading.{handed, said_base}
use Rattle.board_replay.specs.Streams.{place, ReadsOn}
use Rattle.board_replay.specs.Writes.{AppendsFront}
use Rattle.board_replay.proofs.Counting.{reads_after}
use Rattle.board_replay.proofs.Refusing.{refused_well, refused_unwritten, refused_in_part}
use Rattle.board_replay.proofs.replaying.replay_board.Goals as goal

pub returns-in_err-write_opening-in-Err-Opening : goal.returns-in_err-write_opening-in-Err-Opening
returns-in_err-write_opening-in-Err-Opening g c =
    let p = err_from_is_err_and c.from_residual.result c.from_residual.ensures.1 in
    let o = opened_by (Some (said_base c.args.base.now)) (handed c.args.loaded.now) in
    let start = place g.R.Read.remaining c.args.lines.now in
    let here = place g.R.Read.remaining c.open.new.lines in
    let opens = subst (λ (r : Result (Option (Vec ℕ Global)) Failure). Opens o start r here (g.W.Write.contents c.args.out.now) (g.W.Write.contents c.open.new.out)) (c.in-Err-Opening.is ∙ ap Err c.in-Err-Opening.field-0-is) c.open.ensures.opening in
    rw (p.1, p.2) record { board = refused_unwritten o start here c.in-Err-Opening.refusal _ _ opens here; lines = tt }

pub returns-in_err-write_whole-in-Err-Opening : goal.returns-in_err-write_whole-in-Err-Opening
returns-in_err-write_whole-in-Err-Opening g c =
    let p = err_from_is_err_and c.from_residual-in_err-write_whole-in-Err-Opening.result c.from_residual-in_err-write_whole-in-Err-Opening.ensures.1 in
    let o = opened_by (Some (said_base c.args.base.now)) (handed c.args.loaded.now) in
    let start = place g.R.Read.remaining c.args.lines.now in
    let here = place g.R.Read.remaining c.open.new.lines in
    let opens = subst (λ (r : Result (Option (Vec ℕ Global)) Failure). Opens o start r here (g.W.Write.contents c.args.out.now) (g.W.Write.contents c.open.new.out)) (c.in-Err-Opening.is ∙ ap Err c.in-Err-Opening.field-0-is) c.open.ensures.opening in
    rw (p.1, p.2) record {
      board = refused_in_part o start here c.in-Err-Opening.refusal _ _ opens (g.W.Write.contents c.write_whole.new.out) c.write_opening.new.out.items
          (c.in_ok-write_opening-in-Err-Opening.ensures.record ∙ ap (λ (xs : List ℕ). xs ++ opening_record c.in-Err-Opening.refusal) c.new-record.ensures.items)
          (subst (λ (text : List ℕ). AppendsFront (g.W.Write.contents c.open.new.out) (g.W.Write.contents c.write_whole.new.out) text) c.deref.ensures.value c.in_err-write_whole-in-Err-Opening.ensures);
      lines = tt;
    }

pub returns-in_ok-write_whole-in-Err-Opening : goal.returns-in_ok-write_whole-in-Err-Opening
returns-in_ok-write_whole-in-Err-Opening g c =
    let o = opened_by (Some (said_base c.args.base.now)) (handed c.args.loaded.now) in
    let start = place g.R.Read.remaining c.args.lines.now in
    let here = place g.R.Read.remaining c.open.new.lines in
    let after = place g.R.Read.remaining c.skip.new.lines in
    let is = c.in-Err-Opening.is ∙ ap Err c.in-Err-Opening.field-0-is in
    let opens = subst (λ (r : Result (Option (Vec ℕ Global)) Failure). Opens o start r here (g.W.Write.contents c.args.out.now) (g.W.Write.contents c.open.new.out)) is c.open.ensures.opening in
    let back = subst (λ (r : Result (Option (Vec ℕ Global)) Failure). ReadsOn start r here) is c.open.ensures.lines in
    record {
      board = refused_well o start here c.in-Err-Opening.refusal _ _ opens (g.W.Write.contents c.write_whole.new.out) c.write_opening.new.out.items
          (c.in_ok-write_opening-in-Err-Opening.ensures.record ∙ ap (λ (xs : List ℕ). xs ++ opening_record c.in-Err-Opening.refusal) c.new-record.ensures.items)
          _ after
          (subst (λ (text : List ℕ). Appends (g.W.Write.contents c.open.new.out) (g.W.Write.contents c.write_whole.new.out) text) c.deref.ensures.value c.in_ok-write_whole-in-Err-Opening.ensures)
          c.skip.ensures.log;
      lines = reads_after start here c.skip.result after back c.skip.ensures.lines;
    }
