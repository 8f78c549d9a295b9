use Rattle.std.proofs.Common.{◌++◌, ℕ, List, IfSome, Ok, Option, Vec, Global, refl, subst, sym, ap, ◌∙◌}
use Rattle.std.proofs.lemmas.Result.{err_from_is_err_and}
use Rattle.std.specs.Io.KnownBytes.{Appends}
use Rattle.planner.specs.Lent.{memory_of}
use Rattle.day_planner.specs.Planners.{day_in, parts_of, basis}
use Rattle.case_lines.specs.Reading.{seen}
use Rattle.board_replay.specs.Memories.{memory_in}
use Rattle.board_replay.specs.Replays.{log_from, Turns, turn_of, said_record, day_after_line, memory_after_line}
use Rattle.board_replay.specs.Streams.{place, left_at, count_at}
use Rattle.board_replay.specs.Writes.{AppendsFront}
use Rattle.board_replay.proofs.Counting.{reads_none, enters_none, ahead_begun, ahead_to_case, ahead_further}
use Rattle.board_replay.proofs.Onward.{Onward, at_end, at_case, at_failure, at_refusal, at_failed_write, goes_further, gets_as, numbers_as, begun}
use Rattle.board_replay.proofs.Turning.{logs_to_case, logs_to_fault, logs_on}
use Rattle.board_replay.proofs.log.run.Goals as goal

pub loop-text-init : goal.loop-text-init
loop-text-init g c =
    let b = basis g.T.Timetable.hops g.F.Tariff.model g.M.Measure.model (parts_of c.args.planner) c.args.network.now in
    let start = place g.R.Read.remaining c.args.lines.now in
    let came = log_from b (day_in c.args.planner) (memory_in c.args.memory) in
    let written = g.W.Write.contents c.args.out.now in
    record {
      parts = refl;
      empty = c.new-text.ensures.items;
      so_far = subst (λ m. IfSome (left_at start) (λ all. Onward all (count_at start) came written start (log_from b (day_in c.args.planner) m) written)) (λ i. record {
        labels = sym (c.over.ensures.labels ∙ c.deref_mut-3.ensures.value) i;
        written = sym c.over.ensures.used i;
        aboard = sym c.deref_mut-4.ensures.value i;
        sheet = sym c.deref_mut.ensures.value i;
        legs = sym c.deref_mut-2.ensures.value i;
      }) (begun start came written);
      ahead = ahead_begun (place g.R.Read.remaining c.args.lines.now);
    }

pub returns-in_err-line : goal.returns-in_err-line
unfolding log_from
returns-in_err-line g c =
    let p = err_from_is_err_and c.from_residual.result c.from_residual.ensures.1 in
    let here = place g.R.Read.remaining c.loop-text.lines in
    let new = place g.R.Read.remaining c.next.new.self in
    rw (p.1, p.2) record {
      log = at_failure _ _ _ here _ _ c.loop-text.invariant.so_far new c.in_err-line.field-0.0 c.in_err-line.ensures.events c.in_err-line.ensures.number (λ fault rest. refl);
      lines = reads_none (place g.R.Read.remaining c.args.lines.now) here new c.in_err-line.field-0.0 c.in_err-line.ensures.number;
    }

pub returns-in_default : goal.returns-in_default
unfolding log_from
returns-in_default g c =
    let here = place g.R.Read.remaining c.loop-text.lines in
    let new = place g.R.Read.remaining c.next.new.self in
    record { log = at_end _ _ _ here _ _ c.loop-text.invariant.so_far new (gets_as _ _ c.in_default.is c.in_ok-line.ensures.events) refl; lines = tt }

pub returns-in_err-name : goal.returns-in_err-name
returns-in_err-name g c =
    let p = err_from_is_err_and c.from_residual-in_err-name.result c.from_residual-in_err-name.ensures.1 in
    let here = place g.R.Read.remaining c.loop-text.lines in
    let new = place g.R.Read.remaining c.next.new.self in
    let numbers = numbers_as here new c.in-Some.is c.in_ok-line.ensures.number in
    rw (p.1, p.2) record {
      log = at_refusal _ _ _ here _ _ c.loop-text.invariant.so_far new c.in-Some.line (gets_as _ _ c.in-Some.is c.in_ok-line.ensures.events) numbers.0 c.in_err-name.field-0.0 (logs_to_fault _ _ _ (seen c.in-Some.line)) c.in_err-name.ensures.turn;
      lines = enters_none (place g.R.Read.remaining c.args.lines.now) new (turn_of (seen c.in-Some.line)) c.in_err-name.field-0.0 c.in_err-name.ensures.turn;
    }

pub returns-in-Some-2 : goal.returns-in-Some-2
returns-in-Some-2 g c =
    let here = place g.R.Read.remaining c.loop-text.lines in
    let new = place g.R.Read.remaining c.next.new.self in
    let numbers = numbers_as here new c.in-Some.is c.in_ok-line.ensures.number in
    record {
      log = at_case _ _ _ here _ _ c.loop-text.invariant.so_far new c.in-Some.line (gets_as _ _ c.in-Some.is c.in_ok-line.ensures.events) numbers.0 c.in-Some-2.name c.next.ensures.kept
          (logs_to_case _ _ _ (seen c.in-Some.line) c.in-Some-2.name (subst (λ (r : Option (Vec ℕ Global)). Turns (turn_of (seen c.in-Some.line)) (Ok r)) c.in-Some-2.is c.in_ok-name.ensures.turn));
      lines = ahead_to_case (place g.R.Read.remaining c.args.lines.now) here new c.loop-text.invariant.ahead numbers.1;
    }

pub returns-in_err-write_whole : goal.returns-in_err-write_whole
returns-in_err-write_whole g c =
    let p = err_from_is_err_and c.from_residual-in_err-write_whole.result c.from_residual-in_err-write_whole.ensures.1 in
    let b = basis g.T.Timetable.hops g.F.Tariff.model g.M.Measure.model (parts_of c.args.planner) c.args.network.now in
    let same = ap (λ p. basis g.T.Timetable.hops g.F.Tariff.model g.M.Measure.model p c.args.network.now) c.loop-text.invariant.parts in
    let said = seen c.in-Some.line in
    let here = place g.R.Read.remaining c.loop-text.lines in
    let new = place g.R.Read.remaining c.next.new.self in
    let numbers = numbers_as here new c.in-Some.is c.in_ok-line.ensures.number in
    rw (p.1, p.2) record {
      log = at_failed_write _ _ _ here _ _ c.loop-text.invariant.so_far new c.in-Some.line (gets_as _ _ c.in-Some.is c.in_ok-line.ensures.events) numbers.0 c.enter_line.new.text.items (log_from b (day_in c.enter_line.new.planner) (memory_of c.enter_line.new.lent)) (g.W.Write.contents c.write_whole.new.out)
          (logs_on b _ _ said c.enter_line.new.text.items (day_in c.enter_line.new.planner) (memory_of c.enter_line.new.lent)
          (c.in_ok-name.ensures.text ∙ ap (λ (xs : List ℕ). xs ++ said_record (basis g.T.Timetable.hops g.F.Tariff.model g.M.Measure.model (parts_of c.loop-text.planner) c.args.network.now) (day_in c.loop-text.planner) (memory_of c.loop-text.lent) said) c.loop-text.invariant.empty
          ∙ ap (λ b. said_record b (day_in c.loop-text.planner) (memory_of c.loop-text.lent) said) same)
          (c.enter_line.ensures.day ∙ ap (λ b. day_after_line b (day_in c.loop-text.planner) said) same)
          (c.enter_line.ensures.memory ∙ ap (λ b. memory_after_line b (day_in c.loop-text.planner) (memory_of c.loop-text.lent) said) same)
          (subst (λ (r : Option (Vec ℕ Global)). Turns (turn_of said) (Ok r)) c.in_default-2.is c.in_ok-name.ensures.turn))
          (subst (λ (text : List ℕ). AppendsFront (g.W.Write.contents c.loop-text.out) (g.W.Write.contents c.write_whole.new.out) text) c.deref.ensures.value c.in_err-write_whole.ensures);
      lines = tt;
    }

pub loop-text-preserved : goal.loop-text-preserved
loop-text-preserved g c =
    let b = basis g.T.Timetable.hops g.F.Tariff.model g.M.Measure.model (parts_of c.args.planner) c.args.network.now in
    let same = ap (λ p. basis g.T.Timetable.hops g.F.Tariff.model g.M.Measure.model p c.args.network.now) c.loop-text.invariant.parts in
    let said = seen c.in-Some.line in
    let here = place g.R.Read.remaining c.loop-text.lines in
    let new = place g.R.Read.remaining c.next.new.self in
    let numbers = numbers_as here new c.in-Some.is c.in_ok-line.ensures.number in
    record {
      parts = c.enter_line.ensures.parts ∙ c.loop-text.invariant.parts;
      empty = c.clear.ensures.items;
      so_far = goes_further _ _ _ here _ _ c.loop-text.invariant.so_far new c.in-Some.line (gets_as _ _ c.in-Some.is c.in_ok-line.ensures.events) numbers.0 c.enter_line.new.text.items _ _
          (logs_on b _ _ said c.enter_line.new.text.items (day_in c.enter_line.new.planner) (memory_of c.enter_line.new.lent)
          (c.in_ok-name.ensures.text ∙ ap (λ (xs : List ℕ). xs ++ said_record (basis g.T.Timetable.hops g.F.Tariff.model g.M.Measure.model (parts_of c.loop-text.planner) c.args.network.now) (day_in c.loop-text.planner) (memory_of c.loop-text.lent) said) c.loop-text.invariant.empty
          ∙ ap (λ b. said_record b (day_in c.loop-text.planner) (memory_of c.loop-text.lent) said) same)
          (c.enter_line.ensures.day ∙ ap (λ b. day_after_line b (day_in c.loop-text.planner) said) same)
          (c.enter_line.ensures.memory ∙ ap (λ b. memory_after_line b (day_in c.loop-text.planner) (memory_of c.loop-text.lent) said) same)
          (subst (λ (r : Option (Vec ℕ Global)). Turns (turn_of said) (Ok r)) c.in_default-2.is c.in_ok-name.ensures.turn))
          c.next.ensures.kept
          (subst (λ (text : List ℕ). Appends (g.W.Write.contents c.loop-text.out) (g.W.Write.contents c.write_whole.new.out) text) c.deref.ensures.value c.in_ok-write_whole.ensures);
      ahead = ahead_further (place g.R.Read.remaining c.args.lines.now) here new c.loop-text.invariant.ahead numbers.1;
    }

pub loop-text-smaller : goal.loop-text-smaller
loop-text-smaller g c = (numbers_as (place g.R.Read.remaining c.loop-text.lines) (place g.R.Read.remaining c.next.new.self) c.in-Some.is c.in_ok-line.ensures.number).1
