use Rattle.std.proofs.Common.{◌≡◌, ◌≤◌, drop}
use Rattle.case_lines.specs.Words.{number_on}
use Rattle.case_lines.proofs.numbers.number.Given as goal

-- the number that goes on with the digits left is that of the word, and is not too large so far
abbrev pub invariant-loop-byte : goal.invariant-loop-byte
invariant-loop-byte l = record {
  on : number_on l.largest l.value (drop l.byte-index l.word) ≡ number_on l.largest 0 l.word;
  small : l.value ≤ l.largest;
}
