-- One row: its six bytes are packed, and spread again, without loss; and how a loop spreads them, place by place.
use Rattle.std.proofs.Common.{◌≡◌, ℕ, zero, suc, ◌+◌, ◌-◌, ◌*◌, ◌/◌, ◌%◌, ◌^◌, ◌<◌, ◌≤◌, Bool, true, false, cond, ◌&&◌, eqb, ltb, leb, ◌⊎◌, List, [], ◌∷◌, ◌++◌, length, get_or, take, drop, set, Some, None, Option, sym, refl, ap, ◌∙◌, subst, inl, inr, ⊎_elim, append_assoc, append-nil, pow-suc, arith, pow_mono}
use Rattle.std.specs.List.{AllByRecursion}
use Rattle.std.proofs.lemmas.Bool.{ltb-true, eq-eqb, ne_eqb, lt-ltb, le-ltb, leb-true, and_from, and_parts, cases_lt, cond-true, cond_both, and_left, cond-false}
use Rattle.std.proofs.lemmas.List.{take_more, take_more_set, take_all}
use Rattle.sheet.specs.declared.rows.Row.{Row}
use Rattle.sheet.specs.Rows.{last_arrival, top_price, InRange, within_range, following, fits}
use Rattle.sheet.specs.Format.{three, six, map_of, standing, packed, encode_row}
use Rattle.sheet.specs.Reading.{no_map, bits, after, spread, row_of, fitting, decode_row}

-- each of the numbers is a byte's
abbrev pub Bytes : List ℕ → Type 0
Bytes bs = AllByRecursion (λ b. b < 256) bs

pub bits_even : (n m : ℕ) → bits (suc n) (m * 2) ≡ false ∷ bits n m
unfolding bits
bits_even n m =
    let even : m * 2 % 2 ≡ 0 = omega arith in
    let half : m * 2 / 2 ≡ m = omega arith in
    let clear : eqb (m * 2 % 2) 1 ≡ false = ne_eqb (m * 2 % 2) 1 (omega arith) in
    (λ i. clear i ∷ bits n (half i))

pub bits_odd : (n m : ℕ) → bits (suc n) (m * 2 + 1) ≡ true ∷ bits n m
unfolding bits
bits_odd n m =
    let odd : (m * 2 + 1) % 2 ≡ 1 = omega arith in
    let half : (m * 2 + 1) / 2 ≡ m = omega arith in
    let set : eqb ((m * 2 + 1) % 2) 1 ≡ true = eq-eqb ((m * 2 + 1) % 2) 1 odd in
    (λ i. set i ∷ bits n (half i))

pub spread_packed : (bs rest : List ℕ) → Bytes bs → spread (bits (length bs) (map_of bs)) (standing bs ++ rest) ≡ Some (bs, rest)
unfolding spread bits
spread_packed [] rest small = refl
spread_packed (zero ∷ bs) rest small =
    ap (λ s. spread s (standing bs ++ rest)) (bits_even (length bs) (map_of bs)) ∙ ap (after (0 ∷ [])) (spread_packed bs rest small.1)
spread_packed (suc b ∷ bs) rest small =
    ap (λ s. spread s (suc b ∷ standing bs ++ rest)) (bits_odd (length bs) (map_of bs))
    ∙ cond-true _ _ _ (and_from (ltb 0 (suc b)) (ltb (suc b) 256) (lt-ltb 0 (suc b) (omega arith)) (lt-ltb (suc b) 256 small.0))
    ∙ ap (after (suc b ∷ [])) (spread_packed bs rest small.1)

pub map_of_lt : (bs : List ℕ) → map_of bs < 2 ^ length bs
map_of_lt [] = omega arith
map_of_lt (zero ∷ bs) = omega (arith, map_of_lt bs, pow-suc 2 (length bs))
map_of_lt (suc b ∷ bs) = omega (arith, map_of_lt bs, pow-suc 2 (length bs))

pub map_of_small : (bs : List ℕ) → length bs ≤ 6 → map_of bs < 64
map_of_small bs few = let top : 2 ^ length bs ≤ 2 ^ 6 = pow_mono few in omega (arith, map_of_lt bs)

-- bs are n bytes with this map, and what stands of them, with rest behind it, is bytes
pub record Unpacked (n map : ℕ) (bytes bs rest : List ℕ) : Type 0 where
  pub places : length bs ≡ n
  pub small : Bytes bs
  pub map_is : map_of bs ≡ map
  pub bytes_are : standing bs ++ rest ≡ bytes

abbrev Sound : ℕ → ℕ → List ℕ → Option (List ℕ × List ℕ) → Type 0
Sound n map bytes None = Unit {0}
Sound n map bytes (Some p) = Unpacked n map bytes p.0 p.1

sound_clear : (n m : ℕ) (bytes : List ℕ) (o : Option (List ℕ × List ℕ)) → Sound n m bytes o → Sound (suc n) (m * 2) bytes (after (0 ∷ []) o)
sound_clear n m bytes None h = tt
sound_clear n m bytes (Some p) h = record { places = ap suc h.places; small = (omega arith, h.small); map_is = ap (λ x. x * 2) h.map_is; bytes_are = h.bytes_are }

sound_set : (n m b : ℕ) (bytes : List ℕ) (o : Option (List ℕ × List ℕ)) → 0 < b → b < 256 → Sound n m bytes o → Sound (suc n) (m * 2 + 1) (b ∷ bytes) (after (b ∷ []) o)
sound_set n m zero bytes o some lt h = absurd (omega arith)
sound_set n m (suc b) bytes None some lt h = tt
sound_set n m (suc b) bytes (Some p) some lt h =
    record { places = ap suc h.places; small = (lt, h.small); map_is = ap (λ x. x * 2 + 1) h.map_is; bytes_are = ap (λ l. suc b ∷ l) h.bytes_are }

sound_next : (n m : ℕ) (bytes : List ℕ) → ((rest : List ℕ) → Sound n m rest (spread (bits n m) rest)) → Sound (suc n) (m * 2 + 1) bytes (spread (true ∷ bits n m) bytes)
unfolding spread
sound_next n m [] h = tt
sound_next n m (b ∷ rest) h =
    cond_both (ltb 0 b && ltb b 256) (after (b ∷ []) (spread (bits n m) rest)) None (Sound (suc n) (m * 2 + 1) (b ∷ rest))
    (λ e. let t = and_parts (ltb 0 b) (ltb b 256) e in sound_set n m b rest (spread (bits n m) rest) (ltb-true 0 b t.0) (ltb-true b 256 t.1) (h rest))
    (λ _. tt)

halves : (n : ℕ) → (n ≡ n / 2 * 2) ⊎ (n ≡ n / 2 * 2 + 1)
halves n = ⊎_elim (λ h. inl (omega arith)) (λ h. inr (omega arith)) (cases_lt (n % 2) 1)

pub spread_sound : (n map : ℕ) (bytes : List ℕ) → map < 2 ^ n → Sound n map bytes (spread (bits n map) bytes)
unfolding spread bits
spread_sound zero map bytes lt = record { places = refl; small = tt; map_is = omega arith; bytes_are = refl }
spread_sound (suc n) map bytes lt =
    let half : map / 2 < 2 ^ n = omega (arith, pow-suc 2 n) in
    let P : ℕ → Type 0 = λ x. Sound (suc n) x bytes (spread (bits (suc n) x) bytes) in
    let Q : ℕ → List Bool → Type 0 = λ x s. Sound (suc n) x bytes (spread s bytes) in
    ⊎_elim
    (λ e. subst P (sym e) (subst (Q (map / 2 * 2)) (sym (bits_even n (map / 2))) (sound_clear n (map / 2) bytes (spread (bits n (map / 2)) bytes) (spread_sound n (map / 2) bytes half))))
    (λ e. subst P (sym e) (subst (Q (map / 2 * 2 + 1)) (sym (bits_odd n (map / 2))) (sound_next n (map / 2) bytes (λ rest. spread_sound n (map / 2) rest half))))
    (halves map)

-- a row and its six bytes

three_back : (n : ℕ) → n < 2 ^ 24 → n % 256 + n / 256 % 256 * 256 + n / 65536 % 256 * 65536 ≡ n
three_back n lt = omega arith

row_of_six : (row : Row) → InRange row → row_of (six row) ≡ row
row_of_six row h =
    let a : row.arrival < 2 ^ 24 = omega arith in
    let p : row.price < 2 ^ 24 = omega arith in
    (λ i. record { arrival = three_back row.arrival a i; price = three_back row.price p i })

mod_256 : (b c : ℕ) → b < 256 → (b + c * 256) % 256 ≡ b
mod_256 b c q = omega arith

small_mod : (c : ℕ) → c < 256 → c % 256 ≡ c
small_mod c r = omega arith

three_of : (a b c : ℕ) → a < 256 → b < 256 → c < 256 → three (a + b * 256 + c * 65536) ≡ a ∷ b ∷ c ∷ []
three_of a b c p q r =
    let low : (a + b * 256 + c * 65536) % 256 ≡ a = ap (λ n. n % 256) (omega arith) ∙ mod_256 a (b + c * 256) p in
    let over : (a + b * 256 + c * 65536) / 256 ≡ b + c * 256 = omega arith in
    let mid : (a + b * 256 + c * 65536) / 256 % 256 ≡ b = ap (λ n. n % 256) over ∙ mod_256 b c q in
    let above : (a + b * 256 + c * 65536) / 65536 ≡ c = omega arith in
    let top : (a + b * 256 + c * 65536) / 65536 % 256 ≡ c = ap (λ n. n % 256) above ∙ small_mod c r in
    (λ i. low i ∷ mid i ∷ top i ∷ [])

six_of_row : (bs : List ℕ) → length bs ≡ 6 → Bytes bs → six (row_of bs) ≡ bs
six_of_row [] e h = absurd (omega arith)
six_of_row (a ∷ []) e h = absurd (omega arith)
six_of_row (a ∷ b ∷ []) e h = absurd (omega arith)
six_of_row (a ∷ b ∷ c ∷ []) e h = absurd (omega arith)
six_of_row (a ∷ b ∷ c ∷ x ∷ []) e h = absurd (omega arith)
six_of_row (a ∷ b ∷ c ∷ x ∷ y ∷ []) e h = absurd (omega arith)
six_of_row (a ∷ b ∷ c ∷ x ∷ y ∷ z ∷ []) e h =
    let first = three_of a b c (omega arith) (omega arith) (omega arith) in
    let last = three_of x y z (omega arith) (omega arith) (omega arith) in
    (λ i. first i ++ last i)
six_of_row (a ∷ b ∷ c ∷ x ∷ y ∷ z ∷ w ∷ bs) e h = absurd (omega arith)

six_small : (row : Row) → Bytes (six row)
six_small row = omega arith

pub in_range_true : (before : Option Row) (row : Row) → fits before row ≡ true → InRange row
in_range_true before row e =
    let t = and_parts (leb row.arrival last_arrival) (leb row.price top_price) (and_parts (within_range row) (following before row) e).0 in
    (leb-true row.arrival last_arrival t.0, leb-true row.price top_price t.1)

-- a row that fits is read back from its bytes, whatever stands behind them
pub decode_row_encode : (before : Option Row) (row : Row) (rest : List ℕ) → fits before row ≡ true → decode_row before (encode_row row ++ rest) ≡ Some (row, rest)
unfolding decode_row encode_row
decode_row_encode before row rest ok =
    cond-true _ _ _ (lt-ltb (map_of (six row)) 64 (map_of_small (six row) (omega arith)))
    ∙ ap (fitting before) (spread_packed (six row) rest (six_small row))
    ∙ ap (λ r. cond (fits before r) (Some (r, rest)) None) (row_of_six row (in_range_true before row ok))
    ∙ cond-true (fits before row) _ _ ok

-- a row that is read fits, and its bytes are what was read
abbrev pub RowRead : Option Row → List ℕ → Option (Row × List ℕ) → Type 0
RowRead before bytes None = Unit {0}
RowRead before bytes (Some p) = (fits before p.0 ≡ true) × (encode_row p.0 ++ p.1 ≡ bytes)

fitting_sound : (before : Option Row) (map : ℕ) (bytes : List ℕ) (o : Option (List ℕ × List ℕ)) → Sound 6 map bytes o → RowRead before (map ∷ bytes) (fitting before o)
unfolding encode_row
fitting_sound before map bytes None h = tt
fitting_sound before map bytes (Some p) h =
    cond_both (fits before (row_of p.0)) (Some (row_of p.0, p.1)) None (RowRead before (map ∷ bytes))
    (λ e. (
      e,
      ap (λ bs. packed bs ++ p.1) (six_of_row p.0 h.places h.small) ∙ (λ i. h.map_is i ∷ h.bytes_are i),
    ))
    (λ _. tt)

pub decode_row_sound : (before : Option Row) (bytes : List ℕ) → RowRead before bytes (decode_row before bytes)
unfolding decode_row
decode_row_sound before [] = tt
decode_row_sound before (map ∷ bytes) =
    cond_both (ltb map no_map) (fitting before (spread (bits 6 map) bytes)) None (RowRead before (map ∷ bytes))
    (λ e. fitting_sound before map bytes (spread (bits 6 map) bytes) (spread_sound 6 map bytes (ltb-true map 64 e)))
    (λ _. tt)

-- a row takes at most seven bytes
pub standing_le : (bs : List ℕ) → length (standing bs) ≤ length bs
standing_le [] = omega arith
standing_le (zero ∷ bs) = omega (arith, standing_le bs)
standing_le (suc b ∷ bs) = omega (arith, standing_le bs)

pub encode_row_le : (row : Row) → length (encode_row row) ≤ 7
unfolding encode_row
encode_row_le row = omega (arith, standing_le (six row))

pub after_after : (xs ys : List ℕ) (o : Option (List ℕ × List ℕ)) → after xs (after ys o) ≡ after (xs ++ ys) o
after_after xs ys None = refl
after_after xs ys (Some p) = ap (λ l. Some (l, p.1)) (sym (append_assoc xs ys p.0))

-- one place, of as many as are left behind it and itself
module _ (n map : ℕ) (rest : List ℕ) where
  pub spread_clear : (map % 2 ≡ 1 → ⊥) → spread (bits (suc n) map) rest ≡ after (0 ∷ []) (spread (bits n (map / 2)) rest)
  unfolding spread bits
  spread_clear clear = ap (λ b. spread (b ∷ bits n (map / 2)) rest) (ne_eqb (map % 2) 1 clear)

  spread_stands : map % 2 ≡ 1 → spread (bits (suc n) map) rest ≡ spread (true ∷ bits n (map / 2)) rest
  unfolding bits
  spread_stands stands = ap (λ b. spread (b ∷ bits n (map / 2)) rest) (eq-eqb (map % 2) 1 stands)

next_short : (stands : List Bool) (rest : List ℕ) → length rest ≡ 0 → spread (true ∷ stands) rest ≡ None
unfolding spread
next_short stands [] e = refl
next_short stands (b ∷ rest) e = absurd (omega arith)

next_zero : (stands : List Bool) (rest : List ℕ) → get_or rest 0 0 ≡ 0 → spread (true ∷ stands) rest ≡ None
unfolding spread
next_zero stands [] z = refl
next_zero stands (b ∷ rest) z = cond-false _ _ _ (and_left (ltb 0 b) (ltb b 256) (le-ltb 0 b (omega arith)))

next_byte : (stands : List Bool) (rest : List ℕ) → 0 < length rest → (get_or rest 0 0 ≡ 0 → ⊥) → get_or rest 0 0 < 256 → spread (true ∷ stands) rest ≡ after (get_or rest 0 0 ∷ []) (spread stands (drop 1 rest))
unfolding spread
next_byte stands [] some nonzero small = absurd (omega arith)
next_byte stands (b ∷ rest) some nonzero small = cond-true _ _ _ (and_from (ltb 0 b) (ltb b 256) (lt-ltb 0 b (omega arith)) (lt-ltb b 256 small))

-- a turn of the loop over the six places: `was` is what is read from the first place on
module _ (was : Option (List ℕ × List ℕ)) (places rest : List ℕ) (place map : ℕ) (within : place < 6)
    (so_far : after (take place places) (spread (bits (6 - place) map) rest) ≡ was) where
  one : 6 - place ≡ suc (6 - (place + 1))
  one = omega arith

  here : after (take place places) (spread (bits (suc (6 - (place + 1))) map) rest) ≡ was
  here = sym (ap (λ n. after (take place places) (spread (bits n map) rest)) one) ∙ so_far

  pub stop_short : map % 2 ≡ 1 → length rest ≡ 0 → was ≡ None
  stop_short stands none = sym (sym (ap (after (take place places)) (spread_stands (6 - (place + 1)) map rest stands ∙ next_short (bits (6 - (place + 1)) (map / 2)) rest none)) ∙ here)

  pub stop_zero : map % 2 ≡ 1 → get_or rest 0 0 ≡ 0 → was ≡ None
  stop_zero stands zero_byte = sym (sym (ap (after (take place places)) (spread_stands (6 - (place + 1)) map rest stands ∙ next_zero (bits (6 - (place + 1)) (map / 2)) rest zero_byte)) ∙ here)

  pub turn_clear : length places ≡ 6 → get_or places place 0 ≡ 0 → (map % 2 ≡ 1 → ⊥) → after (take (place + 1) places) (spread (bits (6 - (place + 1)) (map / 2)) rest) ≡ was
  turn_clear long none clear =
      let left = spread (bits (6 - (place + 1)) (map / 2)) rest in
      ap (λ l. after l left) (take_more places place 0 (omega arith) ∙ ap (λ b. take place places ++ b ∷ []) none)
      ∙ sym (after_after (take place places) (0 ∷ []) left)
      ∙ ap (after (take place places)) (sym (spread_clear (6 - (place + 1)) map rest clear))
      ∙ here

  pub turn_byte : length places ≡ 6 → map % 2 ≡ 1 → 0 < length rest → (get_or rest 0 0 ≡ 0 → ⊥) → get_or rest 0 0 < 256
      → after (take (place + 1) (set places place (get_or rest 0 0))) (spread (bits (6 - (place + 1)) (map / 2)) (drop 1 rest)) ≡ was
  turn_byte long stands some nonzero small =
      let left = spread (bits (6 - (place + 1)) (map / 2)) (drop 1 rest) in
      ap (λ l. after l left) (take_more_set places place (get_or rest 0 0) (omega arith))
      ∙ sym (after_after (take place places) (get_or rest 0 0 ∷ []) left)
      ∙ ap (after (take place places)) (sym (spread_stands (6 - (place + 1)) map rest stands ∙ next_byte (bits (6 - (place + 1)) (map / 2)) rest some nonzero small))
      ∙ here

-- all six places are passed
pub all_places : (was : Option (List ℕ × List ℕ)) (places rest : List ℕ) (place map : ℕ) → 6 ≤ place → length places ≡ 6 → after (take place places) (spread (bits (6 - place) map) rest) ≡ was → was ≡ Some (places, rest)
unfolding spread bits
all_places was places rest place map past long so_far =
    let none : 6 - place ≡ 0 = omega arith in
    sym so_far ∙ ap (λ n. after (take place places) (spread (bits n map) rest)) none
    ∙ ap (λ l. Some (l, rest)) (append-nil (take place places) ∙ take_all place places (omega arith))
