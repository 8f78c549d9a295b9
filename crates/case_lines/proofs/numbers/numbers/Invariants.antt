use Rattle.std.proofs.Common.{drop}
use Rattle.case_lines.specs.Words.{texts, number_of, largest_number}
use Rattle.case_lines.proofs.Each.{ReadOn}
use Rattle.case_lines.proofs.numbers.numbers.Given as goal

abbrev pub invariant-loop-word : goal.invariant-loop-word
invariant-loop-word l = ReadOn (number_of largest_number) l.numbers.items (texts (drop l.word-index l.words)) (texts l.words)
