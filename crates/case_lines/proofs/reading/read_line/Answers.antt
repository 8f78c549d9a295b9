use Rattle.std.proofs.Common.{Ok, rules}
use Rattle.case_lines.specs.declared.line.Line.TheVariants.{Nothing}
use Rattle.case_lines.proofs.ReadingBack.{numbers_back, reads_back}
use Rattle.case_lines.proofs.reading.read_line.Goals as goal

pub returns-in-35-clause-numbers : goal.returns-in-35-clause-numbers
returns-in-35-clause-numbers c = numbers_back

pub returns-in-35-clause-back : goal.returns-in-35-clause-back
returns-in-35-clause-back c = reads_back c.args.text.now (Ok Nothing) (search rules)

pub returns-in_err-words-clause-numbers : goal.returns-in_err-words-clause-numbers
returns-in_err-words-clause-numbers c = numbers_back

pub returns-clause-numbers : goal.returns-clause-numbers
returns-clause-numbers c = numbers_back

pub returns-clause-back : goal.returns-clause-back
returns-clause-back c = reads_back c.args.text.now c.line_of.result (search rules)
