use Rattle.std.proofs.Common.{◌++◌, ℕ, List, Ok, Option, Vec, Global, subst, ap, ◌∙◌}
use Rattle.std.proofs.lemmas.Result.{err_from_is_err_and}
use Rattle.std.specs.Io.KnownBytes.{Appends}
use Rattle.records.specs.Records.{case_record}
use Rattle.board_replay.specs.Files.{first_board}
use Rattle.board_replay.specs.Replays.{Runs}
use Rattle.board_replay.specs.Streams.{place, ReadsOn}
use Rattle.board_replay.specs.Writes.{AppendsFront}
use Rattle.board_replay.proofs.Counting.{endless_of}
use Rattle.board_replay.proofs.FirstBoard.{file_begun, file_ended, file_failed, file_unnamed, file_half_named, file_further}
use Rattle.board_replay.proofs.replaying.replay.Goals as goal

pub loop-name-init : goal.loop-name-init
loop-name-init g c = file_begun (place g.R.Read.remaining c.args.lines.now) (g.W.Write.contents c.args.out.now)

pub returns-in_err-name : goal.returns-in_err-name
returns-in_err-name g c =
    let p = err_from_is_err_and c.from_residual.result c.from_residual.ensures.1 in
    let here = place g.R.Read.remaining c.loop-name.lines in
    let new = place g.R.Read.remaining c.first_board.new.lines in
    rw (p.1, p.2) record {
      recorded = file_failed _ c.loop-name.is_named _ here _ c.loop-name.invariant new (g.W.Write.contents c.first_board.new.out) c.in_err-name.field-0.0 c.in_err-name.ensures.board;
      endless = endless_of here new c.in_err-name.field-0.0 c.in_err-name.ensures.lines;
    }

pub returns-in_default : goal.returns-in_default
returns-in_default g c =
    let here = place g.R.Read.remaining c.loop-name.lines in
    let new = place g.R.Read.remaining c.first_board.new.lines in
    record {
      recorded = file_ended _ c.loop-name.is_named _ here _ c.loop-name.invariant new (g.W.Write.contents c.first_board.new.out)
          (subst (λ (r : Option (Vec ℕ Global)). Runs (first_board c.loop-name.is_named) here (Ok r) new (g.W.Write.contents c.loop-name.out) (g.W.Write.contents c.first_board.new.out)) c.in_default.is c.in_ok-name.ensures.board);
      endless = λ is. cc;
    }

pub returns-in_err-write_case : goal.returns-in_err-write_case
returns-in_err-write_case g c =
    let p = err_from_is_err_and c.from_residual-in_err-write_case.result c.from_residual-in_err-write_case.ensures.1 in
    let here = place g.R.Read.remaining c.loop-name.lines in
    let new = place g.R.Read.remaining c.first_board.new.lines in
    rw (p.1, p.2) record {
      recorded = file_unnamed _ c.loop-name.is_named _ here _ c.loop-name.invariant new (g.W.Write.contents c.first_board.new.out) c.in-Some.name
          (subst (λ (r : Option (Vec ℕ Global)). Runs (first_board c.loop-name.is_named) here (Ok r) new (g.W.Write.contents c.loop-name.out) (g.W.Write.contents c.first_board.new.out)) c.in-Some.is c.in_ok-name.ensures.board) new;
      endless = λ is. cc;
    }

pub returns-in_err-write_whole : goal.returns-in_err-write_whole
returns-in_err-write_whole g c =
    let p = err_from_is_err_and c.from_residual-in_err-write_whole.result c.from_residual-in_err-write_whole.ensures.1 in
    let here = place g.R.Read.remaining c.loop-name.lines in
    let new = place g.R.Read.remaining c.first_board.new.lines in
    rw (p.1, p.2) record {
      recorded = file_half_named _ c.loop-name.is_named _ here _ c.loop-name.invariant new (g.W.Write.contents c.first_board.new.out) c.in-Some.name
          (subst (λ (r : Option (Vec ℕ Global)). Runs (first_board c.loop-name.is_named) here (Ok r) new (g.W.Write.contents c.loop-name.out) (g.W.Write.contents c.first_board.new.out)) c.in-Some.is c.in_ok-name.ensures.board)
          c.write_case.new.out.items (g.W.Write.contents c.write_whole.new.out)
          (c.in_ok-write_case.ensures.record ∙ ap (λ (xs : List ℕ). xs ++ case_record c.deref.result.now) c.new-record.ensures.items ∙ ap case_record c.deref.ensures.value)
          (subst (λ (text : List ℕ). AppendsFront (g.W.Write.contents c.first_board.new.out) (g.W.Write.contents c.write_whole.new.out) text) c.deref-in-loop-name.ensures.value c.in_err-write_whole.ensures);
      endless = λ is. cc;
    }

pub loop-name-preserved : goal.loop-name-preserved
loop-name-preserved g c =
    let here = place g.R.Read.remaining c.loop-name.lines in
    let new = place g.R.Read.remaining c.first_board.new.lines in
    file_further _ c.loop-name.is_named _ here _ c.loop-name.invariant new (g.W.Write.contents c.first_board.new.out) c.in-Some.name
    (subst (λ (r : Option (Vec ℕ Global)). Runs (first_board c.loop-name.is_named) here (Ok r) new (g.W.Write.contents c.loop-name.out) (g.W.Write.contents c.first_board.new.out)) c.in-Some.is c.in_ok-name.ensures.board)
    c.write_case.new.out.items (g.W.Write.contents c.write_whole.new.out)
    (c.in_ok-write_case.ensures.record ∙ ap (λ (xs : List ℕ). xs ++ case_record c.deref.result.now) c.new-record.ensures.items ∙ ap case_record c.deref.ensures.value)
    (subst (λ (text : List ℕ). Appends (g.W.Write.contents c.first_board.new.out) (g.W.Write.contents c.write_whole.new.out) text) c.deref-in-loop-name.ensures.value c.in_ok-write_whole.ensures)

pub loop-name-smaller : goal.loop-name-smaller
loop-name-smaller g c =
    subst (λ (r : Option (Vec ℕ Global)). ReadsOn (place g.R.Read.remaining c.loop-name.lines) (Ok r) (place g.R.Read.remaining c.first_board.new.lines)) c.in-Some.is c.in_ok-name.ensures.lines
