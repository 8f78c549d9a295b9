-- Whole sheets: encoding good rows and decoding undo one another; and how a loop decodes them, row by row.
use Rattle.std.proofs.Common.{◌≡◌, ℕ, zero, suc, ◌+◌, ◌-◌, ◌*◌, ◌<◌, ◌≤◌, true, leb, List, [], ◌∷◌, ◌++◌, length, get_or, take, drop, Some, None, Ok, Err, Option, Result, sym, refl, ap, ◌∙◌, subst, append_assoc, append-nil, arith, length-append}
use Rattle.std.specs.List.{flat_map}
use Rattle.std.proofs.lemmas.Bool.{le-leb, leb-true, cond-true, cond_both, lt-leb, cond-false}
use Rattle.std.proofs.lemmas.List.{take_rest}
use Rattle.sheet.specs.declared.rows.Row.{Row}
use Rattle.sheet.specs.declared.refusals.Refusal.{Refusal}
use Rattle.sheet.specs.declared.refusals.Refusal.TheVariants.{NoSheet, NoRow}
use Rattle.sheet.specs.Rows.{most_rows, Good, fits}
use Rattle.sheet.specs.Format.{sheet_bytes, encode_row, encode}
use Rattle.sheet.specs.Reading.{decode_row, row_first, rows_from, decode_rows, decode}
use Rattle.sheet.specs.Promise.{SheetOf}
use Rattle.sheet.proofs.Packing.{RowRead, decode_row_encode, decode_row_sound, encode_row_le}
use Rattle.sheet.proofs.Chains.{Chain, chain_from_good, good_from_chain}

-- what is read behind rows that were read before
abbrev pub rows_behind : List Row → Result (List Row) Refusal → Result (List Row) Refusal
rows_behind front (Ok rows) = Ok (front ++ rows)
rows_behind front (Err refusal) = Err refusal

decode_rows_encode : (k : ℕ) (before : Option Row) (rows : List Row) → Chain before rows → decode_rows (length rows) k before (flat_map encode_row rows) ≡ Ok rows
unfolding decode_rows
decode_rows_encode k before [] h = refl
decode_rows_encode k before (row ∷ rows) h =
    ap (λ o. rows_from k o (λ next rest. decode_rows (length rows) (k + 1) (Some next) rest)) (decode_row_encode before row (flat_map encode_row rows) h.0)
    ∙ ap (row_first row) (decode_rows_encode (k + 1) (Some row) rows h.1)

pub decode_encode : (rows : List Row) → Good rows → decode (encode rows) ≡ Ok rows
unfolding decode encode
decode_encode rows good = cond-true _ _ _ (le-leb (length rows) most_rows good.few) ∙ decode_rows_encode 0 None rows (chain_from_good rows good)

-- rows that were read fit one after another, and their bytes are what was read
abbrev RowsRead : ℕ → Option Row → List ℕ → Result (List Row) Refusal → Type 0
RowsRead n before bytes (Err refusal) = Unit {0}
RowsRead n before bytes (Ok rows) = (length rows ≡ n) × Chain before rows × (flat_map encode_row rows ≡ bytes)

row_first_sound : (n : ℕ) (before : Option Row) (row : Row) (bytes rest : List ℕ) (r : Result (List Row) Refusal) → fits before row ≡ true → encode_row row ++ rest ≡ bytes → RowsRead n (Some row) rest r → RowsRead (suc n) before bytes (row_first row r)
row_first_sound n before row bytes rest (Err refusal) ok e h = tt
row_first_sound n before row bytes rest (Ok rows) ok e h = (ap suc h.0, (ok, h.1), ap (λ l. encode_row row ++ l) h.2 ∙ e)

rows_from_sound : (n k : ℕ) (before : Option Row) (bytes : List ℕ) (o : Option (Row × List ℕ)) (more : Row → List ℕ → Result (List Row) Refusal) → RowRead before bytes o → ((row : Row) (rest : List ℕ) → RowsRead n (Some row) rest (more row rest)) → RowsRead (suc n) before bytes (rows_from k o more)
rows_from_sound n k before bytes None more h sound = tt
rows_from_sound n k before bytes (Some p) more h sound = row_first_sound n before p.0 bytes p.1 (more p.0 p.1) h.0 h.1 (sound p.0 p.1)

decode_rows_sound : (n k : ℕ) (before : Option Row) (bytes : List ℕ) → RowsRead n before bytes (decode_rows n k before bytes)
unfolding decode_rows
decode_rows_sound zero k before [] = (refl, tt, refl)
decode_rows_sound zero k before (byte ∷ rest) = tt
decode_rows_sound (suc n) k before bytes =
    rows_from_sound n k before bytes (decode_row before bytes) _ (decode_row_sound before bytes) (λ row rest. decode_rows_sound n (k + 1) (Some row) rest)

-- what a sheet's rows are
abbrev Means : List ℕ → Result (List Row) Refusal → Type 0
Means bytes (Err refusal) = Unit {0}
Means bytes (Ok rows) = Good rows × (encode rows ≡ bytes)

rows_mean : (count : ℕ) (bytes : List ℕ) (r : Result (List Row) Refusal) → count ≤ most_rows → RowsRead count None bytes r → Means (count ∷ bytes) r
unfolding encode
rows_mean count bytes (Err refusal) few h = tt
rows_mean count bytes (Ok rows) few h = (good_from_chain rows (omega (arith, h.0)) h.1, (λ i. h.0 i ∷ h.2 i))

decode_means : (bytes : List ℕ) → Means bytes (decode bytes)
unfolding decode
decode_means [] = tt
decode_means (count ∷ bytes) =
    cond_both (leb count most_rows) (decode_rows count 0 None bytes) (Err NoSheet) (Means (count ∷ bytes))
    (λ e. rows_mean count bytes (decode_rows count 0 None bytes) (leb-true count most_rows e) (decode_rows_sound count 0 None bytes))
    (λ _. tt)

pub encode_decode : (bytes : List ℕ) (rows : List Row) → decode bytes ≡ Ok rows → Good rows × (encode rows ≡ bytes)
encode_decode bytes rows e = subst (Means bytes) e (decode_means bytes)

pub encode_one : (rows others : List Row) → Good rows → Good others → encode rows ≡ encode others → rows ≡ others
encode_one rows others p q e = let r = decode_encode rows p in let s = decode_encode others q in let t = ap decode e in cc

pub joined_le : (rows : List Row) → length (flat_map encode_row rows) ≤ 7 * length rows
joined_le [] = omega arith
joined_le (row ∷ rows) = omega (arith, joined_le rows, encode_row_le row, length-append (encode_row row) (flat_map encode_row rows))

pub encode_le : (rows : List Row) → length rows ≤ most_rows → length (encode rows) ≤ sheet_bytes
unfolding encode
encode_le rows few = omega (arith, joined_le rows)

-- good rows and their sheet, from either side
pub sheet_of : (rows : List Row) (bytes : List ℕ) → Good rows → bytes ≡ encode rows → SheetOf rows bytes
sheet_of rows bytes good is = record {
  good = good;
  encoded = is;
  room = subst (λ l. length l ≤ sheet_bytes) (sym is) (encode_le rows good.few);
  reads_back = ap decode is ∙ decode_encode rows good;
  alone = λ others fine that. encode_one others rows fine good (sym that ∙ is);
}

pub sheet_decoded : (bytes : List ℕ) (rows : List Row) → decode bytes ≡ Ok rows → SheetOf rows bytes
sheet_decoded bytes rows e = let m = encode_decode bytes rows e in sheet_of rows bytes m.0 (sym m.1)

-- the count byte

pub count_missing : (sheet : List ℕ) → length sheet ≡ 0 → decode sheet ≡ Err NoSheet
unfolding decode
count_missing [] e = refl
count_missing (count ∷ bytes) e = absurd (omega arith)

pub count_high : (sheet : List ℕ) → most_rows < get_or sheet 0 0 → decode sheet ≡ Err NoSheet
unfolding decode
count_high [] h = refl
count_high (count ∷ bytes) h = cond-false _ _ _ (lt-leb count most_rows h)

pub counted : (sheet : List ℕ) → 0 < length sheet → get_or sheet 0 0 ≤ most_rows → decode sheet ≡ decode_rows (get_or sheet 0 0) 0 None (take (length sheet - 1) (drop 1 sheet))
unfolding decode
counted [] some h = absurd (omega arith)
counted (count ∷ bytes) some h = cond-true _ _ _ (le-leb count most_rows h) ∙ ap (decode_rows count 0 None) (sym (take_rest (count ∷ bytes) 1))

-- the rows

behind_first : (front : List Row) (row : Row) (r : Result (List Row) Refusal) → rows_behind front (row_first row r) ≡ rows_behind (front ++ row ∷ []) r
behind_first front row (Ok rows) = ap Ok (sym (append_assoc front (row ∷ []) rows))
behind_first front row (Err refusal) = refl

module _ (was : Result (List Row) Refusal) (found : List Row) (before : Option Row) (rest : List ℕ) (count k : ℕ)
    (so_far : rows_behind found (decode_rows (count - k) k before rest) ≡ was) where
  here : k < count → rows_behind found (decode_rows (suc (count - (k + 1))) k before rest) ≡ was
  here more = let one : suc (count - (k + 1)) ≡ count - k = omega arith in ap (λ n. rows_behind found (decode_rows n k before rest)) one ∙ so_far

  pub stop_row : k < count → decode_row before rest ≡ None → was ≡ Err (NoRow k)
  unfolding decode_rows
  stop_row more none =
      sym (here more) ∙ ap (λ o. rows_behind found (rows_from k o (λ row behind. decode_rows (count - (k + 1)) (k + 1) (Some row) behind))) none

  pub turn_row : (row : Row) (behind : List ℕ) → k < count → decode_row before rest ≡ Some (row, behind)
      → rows_behind (found ++ row ∷ []) (decode_rows (count - (k + 1)) (k + 1) (Some row) behind) ≡ was
  unfolding decode_rows
  turn_row row behind more some =
      sym (behind_first found row (decode_rows (count - (k + 1)) (k + 1) (Some row) behind))
      ∙ sym (ap (λ o. rows_behind found (rows_from k o (λ row behind. decode_rows (count - (k + 1)) (k + 1) (Some row) behind))) some)
      ∙ here more

  last : count ≤ k → rows_behind found (decode_rows zero k before rest) ≡ was
  last past = let none : zero ≡ count - k = omega arith in ap (λ n. rows_behind found (decode_rows n k before rest)) none ∙ so_far

at_end : (k : ℕ) (before : Option Row) (rest : List ℕ) → length rest ≡ 0 → decode_rows zero k before rest ≡ Ok []
unfolding decode_rows
at_end k before [] e = refl
at_end k before (byte ∷ rest) e = absurd (omega arith)

left_over : (k : ℕ) (before : Option Row) (rest : List ℕ) → (length rest ≡ 0 → ⊥) → decode_rows zero k before rest ≡ Err NoSheet
unfolding decode_rows
left_over k before [] some = absurd (some refl)
left_over k before (byte ∷ rest) some = refl

module _ (was : Result (List Row) Refusal) (found : List Row) (before : Option Row) (rest : List ℕ) (count k : ℕ)
    (so_far : rows_behind found (decode_rows (count - k) k before rest) ≡ was) (past : count ≤ k) where
  pub all_read : length rest ≡ 0 → was ≡ Ok found
  all_read none = sym (last was found before rest count k so_far past) ∙ ap (rows_behind found) (at_end k before rest none) ∙ ap Ok (append-nil found)

  pub some_left : (length rest ≡ 0 → ⊥) → was ≡ Err NoSheet
  some_left some = sym (last was found before rest count k so_far past) ∙ ap (rows_behind found) (left_over k before rest some)
