use Rattle.std.proofs.Common.{◌≡◌, refl, ◌+◌, ◌*◌, ◌-◌, get_or, ◌∙◌, sym, arith}
use Rattle.case_lines.specs.Words.{number_of}
use Rattle.case_lines.proofs.Digits.{no_digit, above, further, ended}
use Rattle.case_lines.proofs.numbers.number.Goals as goal

pub returns-then-not-is_ascii_digit-clause-number : goal.returns-then-not-is_ascii_digit-clause-number
returns-then-not-is_ascii_digit-clause-number c =
    no_digit c.args.largest c.loop-byte.value c.args.word.now c.loop-byte.byte-index (number_of c.args.largest c.args.word.now) c.loop-byte.invariant.on c.loop-byte-test.true
    (sym c.is_ascii_digit.ensures.value ∙ c.if-not-is_ascii_digit.true)

pub returns-then-next-from-clause-number : goal.returns-then-next-from-clause-number
returns-then-next-from-clause-number c =
    let is : c.from.result * 10 + c.from-in-loop-byte.result ≡ c.loop-byte.value * 10 + (get_or c.args.word.now c.loop-byte.byte-index 0 - 48) = rw (c.from.ensures, c.from-in-loop-byte.ensures) refl in
    above c.args.largest c.loop-byte.value c.args.word.now c.loop-byte.byte-index (number_of c.args.largest c.args.word.now) c.loop-byte.invariant.on _ is c.loop-byte-test.true
    (sym c.is_ascii_digit.ensures.value ∙ c.if-not-is_ascii_digit.false) (omega (arith, c.if-next-from.true, c.from-in-loop-byte-2.ensures))

pub loop-byte-preserved : goal.loop-byte-preserved
loop-byte-preserved c =
    let least = c.if-next-from.false in
    let same = c.from-in-loop-byte-2.ensures in
    let is : c.from.result * 10 + c.from-in-loop-byte.result ≡ c.loop-byte.value * 10 + (get_or c.args.word.now c.loop-byte.byte-index 0 - 48) = rw (c.from.ensures, c.from-in-loop-byte.ensures) refl in
    record {
      on = further c.args.largest c.loop-byte.value c.args.word.now c.loop-byte.byte-index (number_of c.args.largest c.args.word.now) c.loop-byte.invariant.on _ is c.loop-byte-test.true
          (sym c.is_ascii_digit.ensures.value ∙ c.if-not-is_ascii_digit.false) (omega (arith, least, same));
      small = omega (arith, least, same);
    }

pub returns-clause-number : goal.returns-clause-number
returns-clause-number c = ended c.args.largest c.loop-byte.value c.args.word.now c.loop-byte.byte-index (number_of c.args.largest c.args.word.now) c.loop-byte.invariant.on c.loop-byte-test.false

pub returns-clause-small : goal.returns-clause-small
returns-clause-small c = c.loop-byte.invariant.small
