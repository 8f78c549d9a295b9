-- The first line of a text is what stands before its first line feed, and the lines after it are those of the rest.
use Rattle.std.proofs.Common.{◌≡◌, ℕ, ◌-◌, Bool, true, false, cond, List, [], ◌∷◌, length, take, slice_index, nat_eq, nat_lt, suc, refl, ap, ◌∙◌, sym, arith}
use Rattle.std.proofs.lemmas.Bool.{lt-ltb}
use Rattle.std.specs.Io.BufRead.{take_through, drop_through, strip_last}
use Rattle.board_replay.specs.Streams.{onto_first, lines_in}

onto_cond : (b : ℕ) (test : Bool) (xs ys : List ℕ) → cond test (b ∷ xs) (b ∷ ys) ≡ b ∷ cond test xs ys
onto_cond b true xs ys = refl
onto_cond b false xs ys = refl

-- the last byte goes where it is a line feed
last_goes : (xs : List ℕ) (n : ℕ) → length xs ≡ suc n → strip_last 10 xs ≡ cond (nat_eq (slice_index xs n) 10) (take n xs) xs
last_goes xs n e =
    let some : nat_lt 0 (length xs) ≡ true = lt-ltb 0 (length xs) (omega (arith, e)) in
    let last : length xs - 1 ≡ n = omega (arith, e) in
    rw (some, last) refl

strip_more : (b x : ℕ) (xs : List ℕ) → strip_last 10 (b ∷ x ∷ xs) ≡ b ∷ strip_last 10 (x ∷ xs)
strip_more b x xs =
    last_goes (b ∷ x ∷ xs) (suc (length xs)) refl ∙ onto_cond b (nat_eq (slice_index (x ∷ xs) (length xs)) 10) (take (length xs) (x ∷ xs)) (x ∷ xs)
    ∙ ap (λ ys. b ∷ ys) (sym (last_goes (x ∷ xs) (length xs) refl))

-- what was taken of a text that is not empty is not empty
taken_more : (b c : ℕ) (text : List ℕ) → strip_last 10 (b ∷ take_through 10 (c ∷ text)) ≡ b ∷ strip_last 10 (take_through 10 (c ∷ text))
taken_more b c text = go (nat_eq c 10)
  where
    go : (test : Bool) → strip_last 10 (b ∷ cond test (c ∷ []) (c ∷ take_through 10 text)) ≡ b ∷ strip_last 10 (cond test (c ∷ []) (c ∷ take_through 10 text))
    go true = strip_more b c []
    go false = strip_more b c (take_through 10 text)

pub first_line_is : (b : ℕ) (text : List ℕ) → lines_in (b ∷ text) ≡ strip_last 10 (take_through 10 (b ∷ text)) ∷ lines_in (drop_through 10 (b ∷ text))
unfolding lines_in
first_line_is b [] = go (nat_eq b 10) refl
  where
    go : (test : Bool) → nat_eq b 10 ≡ test → cond test ([] ∷ []) ((b ∷ []) ∷ []) ≡ strip_last 10 (cond test (b ∷ []) (b ∷ [])) ∷ lines_in (cond test [] [])
    go true e = rw e refl
    go false e = rw e refl
first_line_is b (c ∷ text) = go (first_line_is c text) (nat_eq b 10) refl
  where
    go : lines_in (c ∷ text) ≡ strip_last 10 (take_through 10 (c ∷ text)) ∷ lines_in (drop_through 10 (c ∷ text)) → (test : Bool) → nat_eq b 10 ≡ test
        → cond test ([] ∷ lines_in (c ∷ text)) (onto_first b (lines_in (c ∷ text))) ≡ strip_last 10 (cond test (b ∷ []) (b ∷ take_through 10 (c ∷ text))) ∷ lines_in (cond test (c ∷ text) (drop_through 10 (c ∷ text)))
    go more true e = rw e refl
    go more false e = ap (onto_first b) more ∙ ap (λ line. line ∷ lines_in (drop_through 10 (c ∷ text))) (sym (taken_more b c text))
