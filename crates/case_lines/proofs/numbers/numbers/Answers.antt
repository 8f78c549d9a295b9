use Rattle.std.proofs.lemmas.Result.{err_from_is_err_and}
use Rattle.case_lines.specs.Words.{number_of, largest_number}
use Rattle.case_lines.proofs.Each.{goes_on, ends, is_done}
use Rattle.case_lines.proofs.numbers.numbers.Goals as goal

pub returns-in_err-number : goal.returns-in_err-number
returns-in_err-number c =
    let p = err_from_is_err_and c.from_residual.result c.from_residual.ensures.1 in
    rw (p.1, p.2) (ends (number_of largest_number) c.loop-word.numbers.items c.args.words.now c.loop-word.word-index c.loop-word.invariant _ c.loop-word-test.true c.in_err-number.field-0.0 c.in_err-number.ensures.number)

pub loop-word-preserved : goal.loop-word-preserved
loop-word-preserved c =
    rw c.in_ok-push.ensures.items (goes_on (number_of largest_number) c.loop-word.numbers.items c.args.words.now c.loop-word.word-index c.loop-word.invariant _ c.loop-word-test.true c.in_ok-number.field-0 c.in_ok-number.ensures.number)

pub returns : goal.returns
returns c = is_done (number_of largest_number) c.loop-word.numbers.items c.args.words.now c.loop-word.word-index c.loop-word.invariant c.loop-word-test.false
