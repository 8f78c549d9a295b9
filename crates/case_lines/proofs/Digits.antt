-- Reading a number digit after digit, as a loop does.
use Rattle.std.proofs.Common.{◌≡◌, ℕ, ◌+◌, ◌-◌, ◌*◌, ◌<◌, ◌≤◌, true, false, List, length, drop, get_or, Result, Ok, Err, refl, sym, ◌∙◌}
use Rattle.std.proofs.lemmas.List.{drop_more, drop_all}
use Rattle.std.proofs.lemmas.Bool.{lt-ltb, le-ltb}
use Rattle.std.specs.Char.{is_ascii_digit}
use Rattle.case_lines.specs.declared.fault.Fault.{Fault}
use Rattle.case_lines.specs.declared.fault.Fault.TheVariants.{NotANumber, TooLarge}
use Rattle.case_lines.specs.Words.{number_on}

module _ (largest value : ℕ) (word : List ℕ) (i : ℕ) (all : Result ℕ Fault) (so_far : number_on largest value (drop i word) ≡ all) where
  pub no_digit : i < length word → is_ascii_digit (get_or word i 0) ≡ false → all ≡ Err NotANumber
  unfolding number_on
  no_digit lt h =
      let one : number_on largest value (drop i word) ≡ Err NotANumber = rw (drop_more word i 0 lt, h) refl in
      sym so_far ∙ one

  pub ended : length word ≤ i → all ≡ Ok value
  unfolding number_on
  ended le =
      let one : number_on largest value (drop i word) ≡ Ok value = rw (drop_all i word le) refl in
      sym so_far ∙ one

  -- with the next digit
  module _ (next : ℕ) (is : next ≡ value * 10 + (get_or word i 0 - 48)) (lt : i < length word) (h : is_ascii_digit (get_or word i 0) ≡ true) where
    pub above : largest < next → all ≡ Err TooLarge
    unfolding number_on
    above k =
        let one : number_on largest value (drop i word) ≡ Err TooLarge = rw (drop_more word i 0 lt, h, sym is, lt-ltb largest next k) refl in
        sym so_far ∙ one

    pub further : next ≤ largest → number_on largest next (drop (i + 1) word) ≡ all
    unfolding number_on
    further k =
        let one : number_on largest value (drop i word) ≡ number_on largest next (drop (i + 1) word) = rw (drop_more word i 0 lt, h, sym is, le-ltb largest next k) refl in
        sym one ∙ so_far
