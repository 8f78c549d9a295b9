-- What was written is read back: numbers, bytes, words and lines.
use Rattle.std.proofs.Common.{◌≡◌, ℕ, suc, ◌+◌, ◌*◌, ◌-◌, ◌/◌, ◌%◌, ◌^◌, ◌<◌, ◌≤◌, Bool, true, false, cond, not, ◌&&◌, List, [], ◌∷◌, ◌++◌, length, map, Ok, Err, Result, refl, ap, ◌∙◌, subst, arith, append_assoc}
use Rattle.std.proofs.lemmas.Bool.{le-leb, lt-leb, lt-ltb, le-ltb, ne_eqb, and_parts, and_from, and_right, not-true, cond-true, cond-false, cases_lt}
use Rattle.std.proofs.lemmas.Fmt.{decimal_by_steps}
use Rattle.std.proofs.lemmas.List.Elements.{All-nil, All-cons, All-head, All-tail}
use Rattle.std.proofs.lemmas.List.Folds.{list_all-append}
use Rattle.std.proofs.lemmas.List.Splits.{slice_split_at, slice_split_none}
use Rattle.std.proofs.Common.{inl, inr}
use Rattle.std.specs.Prelude.{◌==◌, All, codes, decimal, filter, nat_le, nat_lt}
use Rattle.std.specs.Char.{is_ascii_digit}
use Rattle.std.specs.Fmt.{digit_glyph}
use Rattle.std.specs.List.{join_with_byte, list_all}
use Rattle.journeys.specs.declared.question.Question.{Question}
use Rattle.day_planner.specs.declared.entry.Entry.{Entry}
use Rattle.day_planner.specs.declared.entry.Entry.TheVariants.{Cancel, Reinstate, Delay, Ask}
use Rattle.records.specs.Records.{hex, sheet_text}
use Rattle.case_lines.specs.declared.fault.Fault.{Fault}
use Rattle.case_lines.specs.declared.fault.Fault.TheVariants.{NotANumber, TooLarge}
use Rattle.case_lines.specs.declared.fault.ReadError.{ReadError}
use Rattle.case_lines.specs.declared.line.Line.{Line}
use Rattle.case_lines.specs.Fields.{field_at, pair_at, question_at}
use Rattle.case_lines.specs.Outcomes.{Gives}
use Rattle.case_lines.specs.Reading.{seen, enters, claims, ask_of, claim_of, bare_of, entry_at, entry_of, line_of, line_of_words}
use Rattle.case_lines.specs.Words.{is_blank, words_of, number_on, largest_number, digit_of, byte_of, bytes_of, each_of}
use Rattle.case_lines.specs.Written.{entry_words, entry_text, claim_text, HasFields, AreBytes, NumbersReadBack, ReadsBack}

-- Words.

-- it is not empty, and no blank is in it
abbrev has_no_blank : List ℕ → Bool
has_no_blank word = list_all (λ b. not (is_blank b)) word

abbrev is_word : List ℕ → Bool
is_word word = not (length word == 0) && has_no_blank word

no_blanks : (word : List ℕ) → has_no_blank word ≡ true → All (λ b. is_blank b ≡ false) word
no_blanks [] e = All-nil (λ b. is_blank b ≡ false)
no_blanks (b ∷ bs) e =
    let p = and_parts (not (is_blank b)) _ e in
    All-cons (λ b. is_blank b ≡ false) b bs (not-true (is_blank b) p.0) (no_blanks bs p.1)

word_alone : (word : List ℕ) → is_word word ≡ true → words_of word ≡ word ∷ []
word_alone word e =
    let p = and_parts (not (length word == 0)) _ e in
    ap (λ ws. filter (λ (w : List ℕ). not (length w == 0)) ws) (slice_split_none is_blank word (no_blanks word p.1))
    ∙ cond-true (not (length word == 0)) (word ∷ []) [] p.0

word_first : (word : List ℕ) → is_word word ≡ true → (rest : List ℕ) → words_of (word ++ 32 ∷ rest) ≡ word ∷ words_of rest
word_first word e rest =
    let p = and_parts (not (length word == 0)) _ e in
    ap (λ ws. filter (λ (w : List ℕ). not (length w == 0)) ws) (slice_split_at is_blank word 32 rest (no_blanks word p.1) refl)
    ∙ cond-true (not (length word == 0)) (word ∷ words_of rest) (words_of rest) p.0

abbrev AreWords : List (List ℕ) → Type 0
AreWords [] = Unit {0}
AreWords (word ∷ words) = (is_word word ≡ true) × AreWords words

-- words with a blank between each two are read as these words
words_joined : (words : List (List ℕ)) → AreWords words → words_of (join_with_byte 32 words) ≡ words
words_joined [] a = refl
words_joined (word ∷ []) a = word_alone word a.0
words_joined (word ∷ next ∷ words) a =
    word_first word a.0 (join_with_byte 32 (next ∷ words)) ∙ ap (λ ws. word ∷ ws) (words_joined (next ∷ words) a.1)

-- and so are those in front of a blank
words_first : (word : List ℕ) (words : List (List ℕ)) → AreWords (word ∷ words) → (rest : List ℕ)
    → words_of (join_with_byte 32 (word ∷ words) ++ 32 ∷ rest) ≡ (word ∷ words) ++ words_of rest
words_first word [] a rest = word_first word a.0 rest
words_first word (next ∷ words) a rest =
    ap words_of (append_assoc word (32 ∷ join_with_byte 32 (next ∷ words)) (32 ∷ rest))
    ∙ word_first word a.0 (join_with_byte 32 (next ∷ words) ++ 32 ∷ rest)
    ∙ ap (λ ws. word ∷ ws) (words_first next words a.1 rest)

nonempty : (n : ℕ) → not (suc n == 0) ≡ true
nonempty n = ap not (ne_eqb (suc n) 0 (λ e. omega arith))

-- Numbers.

ok_same : (m n : ℕ) → ◌≡◌ {A = Result ℕ Fault} (Ok m) (Ok n) → m ≡ n
ok_same m n e = cc

module _ (largest : ℕ) where
  -- a number that goes on with one digit more
  one_more : (value : ℕ) (digits : List ℕ) (n c : ℕ) → number_on largest value digits ≡ Ok n → is_ascii_digit c ≡ true → n * 10 + (c - 48) ≤ largest
      → number_on largest value (digits ++ c ∷ []) ≡ Ok (n * 10 + (c - 48))
  unfolding number_on
  one_more value [] n c e digit small =
      let same : value ≡ n = ok_same value n e in
      rw (digit, same, le-ltb largest (n * 10 + (c - 48)) small) refl
  one_more value (d ∷ ds) n c e digit small = go (is_ascii_digit d) (nat_lt largest (value * 10 + (d - 48))) e (one_more (value * 10 + (d - 48)) ds n c)
    where
      go : (a b : Bool)
          → cond a (cond b (Err TooLarge) (number_on largest (value * 10 + (d - 48)) ds)) (Err NotANumber) ≡ Ok n
          → (number_on largest (value * 10 + (d - 48)) ds ≡ Ok n → is_ascii_digit c ≡ true → n * 10 + (c - 48) ≤ largest
          → number_on largest (value * 10 + (d - 48)) (ds ++ c ∷ []) ≡ Ok (n * 10 + (c - 48)))
          → cond a (cond b (Err TooLarge) (number_on largest (value * 10 + (d - 48)) (ds ++ c ∷ []))) (Err NotANumber) ≡ Ok (n * 10 + (c - 48))
      go true true f next = cc
      go true false f next = next f digit small
      go false b f next = cc

  -- the digits of a number are a word, which stands for it
  record NumberWord (n : ℕ) (digits : List ℕ) : Type 0 where
    pub reads : n ≤ largest → number_on largest 0 digits ≡ Ok n
    pub word : is_word digits ≡ true

  zero_read : number_on largest 0 [] ≡ Ok 0
  unfolding number_on
  zero_read = refl

  is_digit : (d : ℕ) → d < 10 → is_ascii_digit (48 + d) ≡ true
  is_digit d h = and_from _ _ (le-leb 48 (48 + d) (omega arith)) (le-leb (48 + d) 57 (omega arith))

  no_blank : (d : ℕ) → not (is_blank (48 + d)) ≡ true
  no_blank d = ap not (ne_eqb (48 + d) 32 (λ e. omega arith))

  number_word : (n : ℕ) → n < 2 ^ 64 → NumberWord n (decimal n)
  number_word = decimal_by_steps NumberWord one more
    where
      unit_is : (n : ℕ) → 0 * 10 + ((48 + n) - 48) ≡ n
      unit_is n = omega arith

      tens_is : (n : ℕ) → n / 10 * 10 + ((48 + n % 10) - 48) ≡ n
      tens_is n = omega arith

      one : (n : ℕ) → n < 10 → NumberWord n ((48 + n) ∷ [])
      one n h = record {
        reads = λ small. one_more 0 [] 0 (48 + n) zero_read (is_digit n h) (omega arith) ∙ ap Ok (unit_is n);
        word = and_from (not (is_blank (48 + n))) true (no_blank n) refl;
      }

      more : (n : ℕ) (ds : List ℕ) → 10 ≤ n → NumberWord (n / 10) ds → NumberWord n (ds ++ ((48 + n % 10) ∷ []))
      more n ds h p = record {
        reads = λ small. one_more 0 ds (n / 10) (48 + n % 10) (p.reads (omega arith)) (is_digit (n % 10) (omega arith)) (omega arith) ∙ ap Ok (tens_is n);
        word = longer ds p.word;
      }
        where
          longer : (w : List ℕ) → is_word w ≡ true → is_word (w ++ ((48 + n % 10) ∷ [])) ≡ true
          longer [] e = cc
          longer (b ∷ bs) e =
              let p = and_parts (not (length (b ∷ bs) == 0)) _ e in
              and_from _ _ (nonempty (length (bs ++ ((48 + n % 10) ∷ []))))
              (list_all-append (λ x. not (is_blank x)) (b ∷ bs) ((48 + n % 10) ∷ []) ∙ and_from _ _ p.1 (and_from _ true (no_blank (n % 10)) refl))

pub numbers_back : NumbersReadBack
unfolding field_at
numbers_back largest n words h small = rw ((number_word largest n (omega arith)).reads small) refl

-- Bytes.

digit_back : (d : ℕ) → d < 16 → digit_of (digit_glyph false d) ≡ Ok d
digit_back d h = elim (cases_lt d 10) [
  | inl low ↦
      rw (lt-ltb d 10 low)
      (cond-true (nat_le 48 (48 + d) && nat_le (48 + d) 57) _ _ (and_from _ _ (le-leb 48 (48 + d) (omega arith)) (le-leb (48 + d) 57 (omega arith)))
      ∙ ap Ok (low_is d))
  | inr high ↦
      rw (le-ltb d 10 high)
      (cond-false (nat_le 48 (87 + d) && nat_le (87 + d) 57) _ _ (and_right (nat_le 48 (87 + d)) _ (lt-leb (87 + d) 57 (omega arith)))
      ∙ cond-true (nat_le 97 (87 + d) && nat_le (87 + d) 102) _ _ (and_from _ _ (le-leb 97 (87 + d) (omega arith)) (le-leb (87 + d) 102 (omega arith)))
      ∙ ap Ok (high_is d high))
]
  where
    low_is : (n : ℕ) → (48 + n) - 48 ≡ n
    low_is n = omega arith

    high_is : (n : ℕ) → 10 ≤ n → (87 + n) - 97 + 10 ≡ n
    high_is n k = omega arith

glyph_no_blank : (d : ℕ) → not (is_blank (digit_glyph false d)) ≡ true
glyph_no_blank d = elim (cases_lt d 10) [
  | inl low ↦ rw (lt-ltb d 10 low) (ap not (ne_eqb (48 + d) 32 (λ e. omega arith)))
  | inr high ↦ rw (le-ltb d 10 high) (ap not (ne_eqb (87 + d) 32 (λ e. omega arith)))
]

byte_back : (b : ℕ) → b < 256 → byte_of (hex b) ≡ Ok b
byte_back b h = rw (digit_back (b / 16) (omega arith), digit_back (b % 16) (omega arith)) (ap Ok (whole b))
  where
    whole : (n : ℕ) → n / 16 * 16 + n % 16 ≡ n
    whole n = omega arith

bytes_back : (bytes : List ℕ) → AreBytes bytes → bytes_of (map hex bytes) ≡ Ok bytes
unfolding each_of
bytes_back [] a = refl
bytes_back (b ∷ bs) a =
    rw (byte_back b (All-head (λ x. x < 256) b bs a), bytes_back bs (All-tail (λ x. x < 256) b bs a)) refl

hex_word : (b : ℕ) → is_word (hex b) ≡ true
hex_word b = and_from _ _ (glyph_no_blank (b / 16)) (and_from _ _ (glyph_no_blank (b % 16)) refl)

hex_words : (bytes : List ℕ) → AreWords (map hex bytes)
hex_words [] = tt
hex_words (b ∷ bs) = (hex_word b, hex_words bs)

-- Lines.

word_of : (n : ℕ) → n ≤ largest_number → is_word (decimal n) ≡ true
word_of n h = (number_word largest_number n (omega arith)).word

field_back : (n : ℕ) (words : List (List ℕ)) → n ≤ largest_number → field_at largest_number (decimal n ∷ words) ≡ Ok (n, words)
field_back n words h = numbers_back largest_number n words (omega arith) h

entry_is_words : (e : Entry) → HasFields e → AreWords (entry_words e)
entry_is_words (Cancel trip) h = (refl, (word_of trip h, tt))
entry_is_words (Reinstate trip) h = (refl, (word_of trip h, tt))
entry_is_words (Delay trip seconds) h = (refl, (word_of trip h.0, (word_of seconds h.1, tt)))
entry_is_words (Ask q) h = (refl, (word_of q.origin h.0, (word_of q.destination h.1, (word_of q.departure h.2, (word_of q.rides h.3, tt)))))

question_back : (q : Question) → HasFields (Ask q) → (words : List (List ℕ))
    → question_at (decimal q.origin ∷ decimal q.destination ∷ decimal q.departure ∷ decimal q.rides ∷ words) ≡ Ok (q, words)
unfolding question_at
question_back q h words =
    rw (
      field_back q.origin (decimal q.destination ∷ decimal q.departure ∷ decimal q.rides ∷ words) h.0,
      field_back q.destination (decimal q.departure ∷ decimal q.rides ∷ words) h.1,
      field_back q.departure (decimal q.rides ∷ words) h.2,
      field_back q.rides words h.3,
    ) refl

entry_back : (e : Entry) → HasFields e → line_of_words (entry_words e) ≡ Ok (enters e)
unfolding entry_of entry_at pair_at ask_of bare_of
entry_back (Cancel trip) h = rw (field_back trip [] h) refl
entry_back (Reinstate trip) h = rw (field_back trip [] h) refl
entry_back (Delay trip seconds) h = rw (field_back trip (decimal seconds ∷ []) h.0, field_back seconds [] h.1) refl
entry_back (Ask q) h = rw (question_back q h []) refl

entry_line : (e : Entry) → HasFields e → line_of (entry_text e) ≡ Ok (enters e)
entry_line (Cancel trip) h = ap line_of_words (words_joined (entry_words (Cancel trip)) (entry_is_words (Cancel trip) h)) ∙ entry_back (Cancel trip) h
entry_line (Reinstate trip) h = ap line_of_words (words_joined (entry_words (Reinstate trip)) (entry_is_words (Reinstate trip) h)) ∙ entry_back (Reinstate trip) h
entry_line (Delay trip seconds) h =
    ap line_of_words (words_joined (entry_words (Delay trip seconds)) (entry_is_words (Delay trip seconds) h)) ∙ entry_back (Delay trip seconds) h
entry_line (Ask q) h = ap line_of_words (words_joined (entry_words (Ask q)) (entry_is_words (Ask q) h)) ∙ entry_back (Ask q) h

claim_back : (q : Question) (bytes : List ℕ) → HasFields (Ask q) → AreBytes bytes → line_of_words (entry_words (Ask q) ++ codes "=" ∷ map hex bytes) ≡ Ok (claims q bytes)
unfolding ask_of claim_of
claim_back q bytes h a = rw (question_back q h (codes "=" ∷ map hex bytes), bytes_back bytes a) refl

claim_words : (q : Question) (bytes : List ℕ) → HasFields (Ask q) → words_of (claim_text q bytes) ≡ entry_words (Ask q) ++ codes "=" ∷ map hex bytes
claim_words q bytes h =
    words_first (codes "ask") (decimal q.origin ∷ decimal q.destination ∷ decimal q.departure ∷ decimal q.rides ∷ []) (entry_is_words (Ask q) h) (61 ∷ 32 ∷ sheet_text bytes)
    ∙ ap (λ ws. entry_words (Ask q) ++ ws) (word_first (61 ∷ []) refl (sheet_text bytes) ∙ ap (λ ws. (61 ∷ []) ∷ ws) (words_joined (map hex bytes) (hex_words bytes)))

pub claim_line : (q : Question) (bytes : List ℕ) → HasFields (Ask q) → AreBytes bytes → line_of (claim_text q bytes) ≡ Ok (claims q bytes)
claim_line q bytes h a = ap line_of_words (claim_words q bytes h) ∙ claim_back q bytes h a

pub reads_back : (text : List ℕ) (read : Result Line ReadError) → Gives seen read (line_of text) → ReadsBack text read
reads_back text read g = record {
  entry = λ e h is. subst (Gives seen read) (ap line_of is ∙ entry_line e h) g;
  claim = λ q bytes h a is. subst (Gives seen read) (ap line_of is ∙ claim_line q bytes h a) g;
}
