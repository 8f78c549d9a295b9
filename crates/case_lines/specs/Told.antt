-- What is told of a line that cannot be read.
-- Assumes nothing.
use Rattle.std.specs.Prelude.{ℕ, List, codes}
use Rattle.case_lines.specs.declared.fault.Fault.{Fault}
use Rattle.case_lines.specs.declared.fault.Fault.TheVariants.{UnknownWord, MissingWord, ExtraWord, NotANumber, TooLarge, NotAByte}

-- what is wrong with it, in words
abbrev pub fault_told : Fault → List ℕ
fault_told UnknownWord = codes "unknown word"
fault_told MissingWord = codes "a word is missing"
fault_told ExtraWord = codes "there is an extra word"
fault_told NotANumber = codes "a word is no decimal number"
fault_told TooLarge = codes "a number is above the largest of its field"
fault_told NotAByte = codes "a word is no byte of one or two hexadecimal digits"
