use Rattle.std.proofs.Common.{[], None, Ok, Option, Vec, ℕ, Global, refl, subst}
use Rattle.std.proofs.lemmas.Result.{err_from_is_err_and}
use Rattle.case_lines.specs.Reading.{seen}
use Rattle.board_replay.specs.Replays.{skipped, Turns, turn_of}
use Rattle.board_replay.specs.Streams.{place}
use Rattle.board_replay.proofs.Counting.{reads_none, ahead_begun, ahead_to_case, ahead_further}
use Rattle.board_replay.proofs.Onward.{begun, at_end, at_case, at_fault, at_failure, goes_further, gets_as, numbers_as}
use Rattle.board_replay.proofs.Turning.{skips_to_case, skips_to_fault, skips_on}
use Rattle.board_replay.proofs.log.skip.Goals as goal

pub loop-line-init : goal.loop-line-init
loop-line-init g c = record { so_far = begun (place g.R.Read.remaining c.args.lines.now) skipped None; ahead = ahead_begun (place g.R.Read.remaining c.args.lines.now) }

pub returns-in_err-line : goal.returns-in_err-line
unfolding skipped
returns-in_err-line g c =
    let p = err_from_is_err_and c.from_residual.result c.from_residual.ensures.1 in
    let here = place g.R.Read.remaining c.loop-line.lines in
    let new = place g.R.Read.remaining c.next.new.self in
    rw (p.1, p.2) record {
      log = at_failure _ skipped None here skipped None c.loop-line.invariant.so_far new c.in_err-line.field-0.0 c.in_err-line.ensures.events c.in_err-line.ensures.number (λ fault rest. refl);
      lines = reads_none (place g.R.Read.remaining c.args.lines.now) here new c.in_err-line.field-0.0 c.in_err-line.ensures.number;
    }

pub returns-in_default : goal.returns-in_default
unfolding skipped
returns-in_default g c =
    let here = place g.R.Read.remaining c.loop-line.lines in
    let new = place g.R.Read.remaining c.next.new.self in
    record { log = at_end _ skipped None here skipped None c.loop-line.invariant.so_far new (gets_as _ _ c.in_default.is c.in_ok-line.ensures.events) refl; lines = tt }

pub returns-in_err-name : goal.returns-in_err-name
returns-in_err-name g c =
    let p = err_from_is_err_and c.from_residual-in_err-name.result c.from_residual-in_err-name.ensures.1 in
    let here = place g.R.Read.remaining c.loop-line.lines in
    let new = place g.R.Read.remaining c.next.new.self in
    let numbers = numbers_as here new c.in-Some.is c.in_ok-line.ensures.number in
    rw (p.1, p.2) record {
      log = at_fault _ skipped None here skipped None c.loop-line.invariant.so_far new c.in-Some.line (gets_as _ _ c.in-Some.is c.in_ok-line.ensures.events) numbers.0 c.in_err-name.field-0.0 (skips_to_fault (seen c.in-Some.line) c.in_err-name.field-0.0 c.in_err-name.ensures);
      lines = tt;
    }

pub returns-in-Some-2 : goal.returns-in-Some-2
returns-in-Some-2 g c =
    let here = place g.R.Read.remaining c.loop-line.lines in
    let new = place g.R.Read.remaining c.next.new.self in
    let numbers = numbers_as here new c.in-Some.is c.in_ok-line.ensures.number in
    record {
      log = at_case _ skipped None here skipped None c.loop-line.invariant.so_far new c.in-Some.line (gets_as _ _ c.in-Some.is c.in_ok-line.ensures.events) numbers.0 c.in-Some-2.name c.next.ensures.kept
          (skips_to_case (seen c.in-Some.line) c.in-Some-2.name (subst (λ (r : Option (Vec ℕ Global)). Turns (turn_of (seen c.in-Some.line)) (Ok r)) c.in-Some-2.is c.in_ok-name.ensures));
      lines = ahead_to_case (place g.R.Read.remaining c.args.lines.now) here new c.loop-line.invariant.ahead numbers.1;
    }

pub loop-line-preserved : goal.loop-line-preserved
loop-line-preserved g c =
    let here = place g.R.Read.remaining c.loop-line.lines in
    let new = place g.R.Read.remaining c.next.new.self in
    let numbers = numbers_as here new c.in-Some.is c.in_ok-line.ensures.number in
    record {
      so_far = goes_further _ skipped None here skipped None c.loop-line.invariant.so_far new c.in-Some.line (gets_as _ _ c.in-Some.is c.in_ok-line.ensures.events) numbers.0 [] skipped None
          (skips_on (seen c.in-Some.line) (subst (λ (r : Option (Vec ℕ Global)). Turns (turn_of (seen c.in-Some.line)) (Ok r)) c.in_default-2.is c.in_ok-name.ensures)) c.next.ensures.kept tt;
      ahead = ahead_further (place g.R.Read.remaining c.args.lines.now) here new c.loop-line.invariant.ahead numbers.1;
    }

pub loop-line-smaller : goal.loop-line-smaller
loop-line-smaller g c = (numbers_as (place g.R.Read.remaining c.loop-line.lines) (place g.R.Read.remaining c.next.new.self) c.in-Some.is c.in_ok-line.ensures.number).1
