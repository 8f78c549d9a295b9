use Rattle.std.proofs.Common.{Bool, ◌||◌, Ok, ap, ◌∙◌, subst}
use Rattle.std.proofs.lemmas.Result.{err_from_is_err_and}
use Rattle.case_lines.specs.Reading.{seen}
use Rattle.board_replay.specs.declared.replaying.Taken.{Taken}
use Rattle.board_replay.specs.Files.{is_logged, TakesLine}
use Rattle.board_replay.specs.Loading.{handed}
use Rattle.board_replay.specs.Streams.{place}
use Rattle.board_replay.proofs.Counting.{loads_none, ahead_still, put_back_ahead}
use Rattle.board_replay.proofs.Loading.{load_ended, load_failed, load_stopped}
use Rattle.board_replay.proofs.Onward.{gets_as, numbers_as}
use Rattle.board_replay.proofs.replaying.load.Goals as goal

pub returns-in_err-line : goal.returns-in_err-line
returns-in_err-line g c =
    let p = err_from_is_err_and c.from_residual.result c.from_residual.ensures.1 in
    let here = place g.R.Read.remaining c.loop-line.lines in
    let new = place g.R.Read.remaining c.next.new.self in
    rw (p.1, p.2) record {
      loads = load_failed _ _ here _ _ c.loop-line.invariant.so_far new c.in_err-line.field-0.0 _ c.in_err-line.ensures.events c.in_err-line.ensures.number;
      lines = loads_none (place g.R.Read.remaining c.args.lines.now) here new c.in_err-line.field-0.0 c.in_err-line.ensures.number;
    }

pub returns-in_default : goal.returns-in_default
returns-in_default g c =
    let here = place g.R.Read.remaining c.loop-line.lines in
    let new = place g.R.Read.remaining c.next.new.self in
    let numbers = numbers_as here new c.in_default.is c.in_ok-line.ensures.number in
    record {
      loads = load_ended _ _ here _ _ c.loop-line.invariant.so_far new (gets_as _ _ c.in_default.is c.in_ok-line.ensures.events) numbers.0 c.next.ensures.kept;
      lines = ahead_still (place g.R.Read.remaining c.args.lines.now) here new c.loop-line.invariant.ahead numbers.1;
    }

pub returns-in-Back : goal.returns-in-Back
returns-in-Back g c =
    let t = subst (λ (taken : Taken). TakesLine (seen c.in-Some.line) (handed c.loop-line.loaded) (Ok taken) (handed c.take_line.new.loaded)) c.in-Back.is c.in_ok-take_line.ensures in
    let here = place g.R.Read.remaining c.loop-line.lines in
    let new = place g.R.Read.remaining c.next.new.self in
    let back = place g.R.Read.remaining c.put_back.new.self in
    let numbers = numbers_as here new c.in-Some.is c.in_ok-line.ensures.number in
    record {
      loads = load_stopped _ _ here _ _ c.loop-line.invariant.so_far new c.in-Some.line (gets_as _ _ c.in-Some.is c.in_ok-line.ensures.events) numbers.0 c.next.ensures.kept
          (handed c.take_line.new.loaded) (c.loop-line.is_begun || c.is_logged-is_begun.result) back c.in-Back.line t.1
          (ap (λ (b : Bool). c.loop-line.is_begun || b) (c.is_logged-is_begun.ensures ∙ ap is_logged t.0)) (t.2 c.loop-line.is_begun)
          t.0 c.put_back.ensures.kept (ap (λ r. g.R.Read.remaining r) c.put_back.ensures.reader) c.put_back.ensures.number;
      lines = put_back_ahead (place g.R.Read.remaining c.args.lines.now) here new back c.in-Back.line c.loop-line.invariant.ahead numbers.1 c.next.ensures.kept c.put_back.ensures.number c.put_back.ensures.kept;
    }
