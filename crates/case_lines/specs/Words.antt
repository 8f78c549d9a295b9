-- The words of a line, and the numbers and bytes that words stand for.
-- Assumes nothing.
use Rattle.std.specs.Prelude.{ℕ, ◌+◌, ◌*◌, ◌-◌, Bool, cond, not, ◌&&◌, List, [], ◌∷◌, length, map, filter, slice_index, Ok, Err, Result, ◌==◌, nat_le, nat_lt}
use Rattle.std.specs.Borrow.{Bor}
use Rattle.std.specs.Char.{is_ascii_digit}
use Rattle.std.specs.List.{slice_split}
use Rattle.case_lines.specs.declared.fault.Fault.{Fault}
use Rattle.case_lines.specs.declared.fault.Fault.TheVariants.{NotANumber, TooLarge, NotAByte}
use Rattle.case_lines.specs.Outcomes.{◌>>=◌}

-- lent texts, by their bytes
abbrev pub texts : List (Bor (List ℕ)) → List (List ℕ)
texts words = map (λ word. word.now) words

-- words stand apart by blanks
abbrev pub is_blank : ℕ → Bool
is_blank byte = byte == 32

-- the words of a line: what stands between blanks, where that is not nothing
abbrev pub words_of : List ℕ → List (List ℕ)
words_of text = filter (λ word. not (length word == 0)) (slice_split is_blank text)

-- between two bytes, both included
abbrev pub between : ℕ → ℕ → ℕ → Bool
between low high byte = nat_le low byte && nat_le byte high

-- a number that goes on with these digits, up to the largest value of its field
unfoldable pub number_on : ℕ → ℕ → List ℕ → Result ℕ Fault
number_on largest value [] = Ok value
number_on largest value (c ∷ cs) =
    cond (is_ascii_digit c)
    (cond (nat_lt largest (value * 10 + (c - 48))) (Err TooLarge) (number_on largest (value * 10 + (c - 48)) cs))
    (Err NotANumber)

-- the decimal number of a word, up to the largest value of its field
abbrev pub number_of : ℕ → List ℕ → Result ℕ Fault
number_of largest word = number_on largest 0 word

-- the largest value of a field that names no other
abbrev pub largest_number : ℕ
largest_number = 4294967295

-- what each word stands for, or the first fault
unfoldable pub each_of : {A : Type 0} → (List ℕ → Result A Fault) → List (List ℕ) → Result (List A) Fault
each_of meaning [] = Ok []
each_of meaning (word ∷ words) = do
  first ← meaning word
  others ← each_of meaning words
  Ok (first ∷ others)

-- decimal numbers, as many as there are words
abbrev pub numbers_of : List (List ℕ) → Result (List ℕ) Fault
numbers_of words = each_of (number_of largest_number) words

-- the value of a hexadecimal digit, small or capital
abbrev pub digit_of : ℕ → Result ℕ Fault
digit_of c =
    cond (between 48 57 c) (Ok (c - 48))
    (cond (between 97 102 c) (Ok (c - 97 + 10))
    (cond (between 65 70 c) (Ok (c - 65 + 10))
    (Err NotAByte)))

-- the byte of one or two hexadecimal digits
abbrev pub byte_of : List ℕ → Result ℕ Fault
byte_of word =
    cond (length word == 1) (digit_of (slice_index word 0))
    (cond (length word == 2) (do
      high ← digit_of (slice_index word 0)
      low ← digit_of (slice_index word 1)
      Ok (high * 16 + low))
    (Err NotAByte))

-- bytes, as many as there are words
abbrev pub bytes_of : List (List ℕ) → Result (List ℕ) Fault
bytes_of words = each_of byte_of words
