use Rattle.std.proofs.Common.{drop}
use Rattle.case_lines.specs.Words.{texts, byte_of}
use Rattle.case_lines.proofs.Each.{ReadOn}
use Rattle.case_lines.proofs.numbers.bytes.Given as goal

abbrev pub invariant-loop-word : goal.invariant-loop-word
invariant-loop-word l = ReadOn byte_of l.bytes.items (texts (drop l.word-index l.words)) (texts l.words)
