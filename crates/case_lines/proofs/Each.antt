-- Reading word after word, as a loop does.
use Rattle.std.proofs.Common.{◌≡◌, ℕ, ◌+◌, ◌<◌, ◌≤◌, length, drop, get_or, Bor, List, [], ◌∷◌, ◌++◌, Result, Ok, Err, refl, sym, ap, ◌∙◌, append_assoc}
use Rattle.std.proofs.lemmas.List.{append-nil, drop_more, drop_all}
use Rattle.case_lines.specs.declared.fault.Fault.{Fault}
use Rattle.case_lines.specs.declared.fault.ReadError.{ReadError}
use Rattle.case_lines.specs.declared.fault.ReadError.TheVariants as errors
use Rattle.case_lines.specs.Outcomes.{◌>>=◌, Fails}
use Rattle.case_lines.specs.Words.{texts, each_of}

module _ {A : Type 0} (meaning : List ℕ → Result A Fault) where
  -- what was read before, and what is still read
  abbrev pub with_front : List A → Result (List A) Fault → Result (List A) Fault
  with_front front read = read >>= λ xs. Ok (front ++ xs)

  -- what was read of the words, and then what the words left give, is what all words give
  abbrev pub ReadOn : List A → List (List ℕ) → List (List ℕ) → Type 0
  ReadOn front left words = with_front front (each_of meaning left) ≡ each_of meaning words

  regroup : (front : List A) (x : A) (read : Result (List A) Fault) → with_front front (read >>= λ xs. Ok (x ∷ xs)) ≡ with_front (front ++ x ∷ []) read
  regroup front x (Ok xs) = ap Ok (simp append_assoc)
  regroup front x (Err fault) = refl

  -- the words left are these
  module _ (front : List A) (words : List (Bor (List ℕ))) (i : ℕ) (so_far : ReadOn front (texts (drop i words)) (texts words)) where
    module _ (d : Bor (List ℕ)) (lt : i < length words) where
      left_are : texts (drop i words) ≡ (get_or words i d).now ∷ texts (drop (i + 1) words)
      left_are = ap texts (drop_more words i d lt)

      pub goes_on : (x : A) → meaning (get_or words i d).now ≡ Ok x → ReadOn (front ++ x ∷ []) (texts (drop (i + 1) words)) (texts words)
      unfolding each_of
      goes_on x h =
          let one : with_front front (each_of meaning (texts (drop i words))) ≡ with_front (front ++ x ∷ []) (each_of meaning (texts (drop (i + 1) words))) = rw (left_are, h) (regroup front x (each_of meaning (texts (drop (i + 1) words)))) in
          sym one ∙ so_far

      pub ends : (e : ReadError) → Fails e (meaning (get_or words i d).now) → Fails e (each_of meaning (texts words))
      unfolding each_of
      ends errors.Memory h = tt
      ends (errors.Fault fault) h =
          let one : with_front front (each_of meaning (texts (drop i words))) ≡ Err fault = rw (left_are, h) refl in
          sym so_far ∙ one

    pub is_done : length words ≤ i → each_of meaning (texts words) ≡ Ok front
    unfolding each_of
    is_done le =
        let one : with_front front (each_of meaning (texts (drop i words))) ≡ Ok front = rw (drop_all i words le) (ap Ok (append-nil front)) in
        sym so_far ∙ one
