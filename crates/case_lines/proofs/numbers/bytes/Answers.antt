use Rattle.std.proofs.lemmas.Result.{err_from_is_err_and}
use Rattle.case_lines.specs.Words.{byte_of}
use Rattle.case_lines.proofs.Each.{goes_on, ends, is_done}
use Rattle.case_lines.proofs.numbers.bytes.Goals as goal

pub returns-in_err-byte : goal.returns-in_err-byte
returns-in_err-byte c =
    let p = err_from_is_err_and c.from_residual.result c.from_residual.ensures.1 in
    rw (p.1, p.2) (ends byte_of c.loop-word.bytes.items c.args.words.now c.loop-word.word-index c.loop-word.invariant _ c.loop-word-test.true c.in_err-byte.field-0.0 c.in_err-byte.ensures)

pub loop-word-preserved : goal.loop-word-preserved
loop-word-preserved c =
    rw c.in_ok-push.ensures.items (goes_on byte_of c.loop-word.bytes.items c.args.words.now c.loop-word.word-index c.loop-word.invariant _ c.loop-word-test.true c.in_ok-byte.field-0 c.in_ok-byte.ensures)

pub returns : goal.returns
returns c = is_done byte_of c.loop-word.bytes.items c.args.words.now c.loop-word.word-index c.loop-word.invariant c.loop-word-test.false
