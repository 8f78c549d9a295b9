-- What is refused is no sheet, or holds a row that cannot stand where it does; and whatever is such is refused.
use Rattle.std.proofs.Common.{◌≡◌, ℕ, zero, suc, ◌+◌, ◌-◌, ◌<◌, ◌≤◌, true, false, leb, ◌⊎◌, List, [], ◌∷◌, ◌++◌, length, Some, None, Ok, Err, Option, Result, sym, refl, ap, ◌∙◌, subst, inl, inr, ⊎_elim, append_assoc, zero-add, arith, length-append}
use Rattle.std.specs.List.{flat_map}
use Rattle.std.proofs.lemmas.Bool.{both_ways, leb-true, leb-false, le-leb, lt-leb, cases_Bool, cond-true, cond-false, cond_both}
use Rattle.sheet.specs.declared.rows.Row.{Row}
use Rattle.sheet.specs.declared.refusals.Refusal.{Refusal}
use Rattle.sheet.specs.declared.refusals.Refusal.TheVariants.{NoRow, NoSheet}
use Rattle.sheet.specs.Rows.{most_rows, Good, fits, fault_from, first_fault}
use Rattle.sheet.specs.Format.{encode_row, encode}
use Rattle.sheet.specs.Reading.{decode_row, row_first, rows_from, decode_rows, decode}
use Rattle.sheet.specs.Refusals.{cause}
use Rattle.sheet.specs.Promise.{NoRowNext, NotSheet, BadRow, no_count, high_count, left_over, no_row}
use Rattle.sheet.proofs.Packing.{RowRead, decode_row_encode, decode_row_sound}
use Rattle.sheet.proofs.Chains.{Chain, chain_from_good, good_from_chain}
use Rattle.sheet.proofs.Sheets.{rows_behind}

-- what stands before the next row
abbrev last_of : Option Row → List Row → Option Row
last_of before [] = before
last_of before (row ∷ rows) = last_of (Some row) rows

chain_last : (before : Option Row) (rows : List Row) (row : Row) → Chain before (rows ++ row ∷ []) → fits (last_of before rows) row ≡ true
chain_last before [] row h = h.0
chain_last before (next ∷ rows) row h = chain_last (Some next) rows row h.1

chain_push : (before : Option Row) (rows : List Row) (row : Row) → Chain before rows → fits (last_of before rows) row ≡ true → Chain before (rows ++ row ∷ [])
chain_push before [] row h ok = (ok, tt)
chain_push before (next ∷ rows) row h ok = (h.0, chain_push (Some next) rows row h.1 ok)

none_some : {A B : Type 0} (x : A) → ◌≡◌ {A = Option A} None (Some x) → B
none_some x e = let z : ◌≡◌ {A = ℕ} 0 1 = cc in absurd (omega arith)

-- rows to write

pub record Fault (before : Option Row) (k : ℕ) (rows : List Row) (at : ℕ) : Type 0 where
  pub front : List Row
  pub row : Row
  pub back : List Row
  pub rows_are : rows ≡ front ++ row ∷ back
  pub place : at ≡ k + length front
  pub chain : Chain before front
  pub unfit : fits (last_of before front) row ≡ false

some_same : (m n : ℕ) → ◌≡◌ {A = Option ℕ} (Some m) (Some n) → m ≡ n
some_same m n e = cc

fault_is : (before : Option Row) (k : ℕ) (rows : List Row) (at : ℕ) → fault_from before k rows ≡ Some at → Fault before k rows at
fault_is before k [] at e = none_some at e
fault_is before k (row ∷ rows) at e =
    ⊎_elim
    (λ t.
    let f = fault_is (Some row) (k + 1) rows at (sym (cond-true (fits before row) (fault_from (Some row) (k + 1) rows) (Some k) t) ∙ e) in
    record { front = row ∷ f.front; row = f.row; back = f.back; rows_are = ap (λ l. row ∷ l) f.rows_are; place = omega (arith, f.place); chain = (t, f.chain); unfit = f.unfit })
    (λ f.
    record { front = []; row = row; back = rows; rows_are = refl; place = omega (arith, some_same k at (sym (cond-false (fits before row) (fault_from (Some row) (k + 1) rows) (Some k) f) ∙ e)); chain = tt; unfit = f })
    (cases_Bool (fits before row))

pub fault_is_bad : (rows : List Row) (k : ℕ) → length rows ≤ most_rows → first_fault rows ≡ Some k → BadRow rows k
fault_is_bad rows k few e =
    let f = fault_is None 0 rows k e in
    let parts : length rows ≡ length f.front + length (f.row ∷ f.back) = ap length f.rows_are ∙ length-append f.front (f.row ∷ f.back) in
    record {
      front = f.front;
      row = f.row;
      back = f.back;
      rows_are = f.rows_are;
      place = omega (arith, f.place);
      good = good_from_chain f.front (omega arith) f.chain;
      bad = λ good. both_ways (fits (last_of None f.front) f.row) f.unfit (chain_last None f.front f.row (chain_from_good (f.front ++ f.row ∷ []) good));
    }

-- the first row that cannot stand where it does is the fault
fault_past : (before : Option Row) (k : ℕ) (front : List Row) (row : Row) (back : List Row) → Chain before front → fits (last_of before front) row ≡ false →
    fault_from before k (front ++ row ∷ back) ≡ Some (k + length front)
fault_past before k [] row back h unfit = cond-false (fits before row) _ _ unfit ∙ ap Some (omega arith)
fault_past before k (next ∷ front) row back h unfit =
    cond-true (fits before next) _ _ h.0 ∙ fault_past (Some next) (k + 1) front row back h.1 unfit ∙ ap Some (omega arith)

pub fault_at : (rows : List Row) (k : ℕ) → length rows ≤ most_rows → BadRow rows k → first_fault rows ≡ Some k
fault_at rows k few b =
    let chain = chain_from_good b.front b.good in
    let parts : length rows ≡ length b.front + length (b.row ∷ b.back) = ap length b.rows_are ∙ length-append b.front (b.row ∷ b.back) in
    let longer : length (b.front ++ b.row ∷ []) ≡ length b.front + length (b.row ∷ []) = length-append b.front (b.row ∷ []) in
    let unfit : fits (last_of None b.front) b.row ≡ false =
    ⊎_elim (λ t. absurd (b.bad (good_from_chain (b.front ++ b.row ∷ []) (omega arith) (chain_push None b.front b.row chain t)))) (λ f. f)
    (cases_Bool (fits (last_of None b.front) b.row)) in
    ap first_fault b.rows_are ∙ fault_past None 0 b.front b.row b.back chain unfit ∙ ap Some (omega (arith, b.place))

-- bytes to read: what stopped the reading, behind the rows that were read

pub record Stop (n k : ℕ) (before : Option Row) (bytes : List ℕ) (refusal : Refusal) : Type 0 where
  pub rows : List Row
  pub rest : List ℕ
  pub chain : Chain before rows
  pub bytes_are : bytes ≡ flat_map encode_row rows ++ rest
  pub why : ((refusal ≡ NoRow (k + length rows)) × (length rows < n) × (decode_row (last_of before rows) rest ≡ None)) ⊎ ((refusal ≡ NoSheet) × (length rows ≡ n) × (length rest ≡ 0 → ⊥))

abbrev Stopped : ℕ → ℕ → Option Row → List ℕ → Result (List Row) Refusal → Type 0
Stopped n k before bytes (Ok rows) = Unit {0}
Stopped n k before bytes (Err refusal) = Stop n k before bytes refusal

stop_later : (n k : ℕ) (before : Option Row) (row : Row) (bytes rest : List ℕ) (r : Result (List Row) Refusal) → fits before row ≡ true → encode_row row ++ rest ≡ bytes → Stopped n (k + 1) (Some row) rest r → Stopped (suc n) k before bytes (row_first row r)
stop_later n k before row bytes rest (Ok rows) ok e h = tt
stop_later n k before row bytes rest (Err refusal) ok e h =
    record {
      rows = row ∷ h.rows;
      rest = h.rest;
      chain = (ok, h.chain);
      bytes_are = sym e ∙ ap (λ l. encode_row row ++ l) h.bytes_are ∙ sym (append_assoc (encode_row row) (flat_map encode_row h.rows) h.rest);
      why = ⊎_elim (λ w. inl (w.0 ∙ ap NoRow (omega arith), omega (arith, w.1), w.2)) (λ w. inr (w.0, ap suc w.1, w.2)) h.why;
    }

stop_from : (n k : ℕ) (before : Option Row) (bytes : List ℕ) (o : Option (Row × List ℕ)) (more : Row → List ℕ → Result (List Row) Refusal) → decode_row before bytes ≡ o → RowRead before bytes o → ((row : Row) (rest : List ℕ) → Stopped n (k + 1) (Some row) rest (more row rest)) → Stopped (suc n) k before bytes (rows_from k o more)
stop_from n k before bytes None more e h stops = record { rows = []; rest = bytes; chain = tt; bytes_are = refl; why = inl (ap NoRow (omega arith), omega arith, e) }
stop_from n k before bytes (Some p) more e h stops = stop_later n k before p.0 bytes p.1 (more p.0 p.1) h.0 h.1 (stops p.0 p.1)

decode_rows_stops : (n k : ℕ) (before : Option Row) (bytes : List ℕ) → Stopped n k before bytes (decode_rows n k before bytes)
unfolding decode_rows
decode_rows_stops zero k before [] = tt
decode_rows_stops zero k before (byte ∷ rest) = record { rows = []; rest = byte ∷ rest; chain = tt; bytes_are = refl; why = inr (refl, refl, λ e. omega arith) }
decode_rows_stops (suc n) k before bytes =
    stop_from n k before bytes (decode_row before bytes) _ refl (decode_row_sound before bytes) (λ row rest. decode_rows_stops n (k + 1) (Some row) rest)

no_row_next : (rows : List Row) (rest : List ℕ) → decode_row (last_of None rows) rest ≡ None → NoRowNext rows rest
no_row_next rows rest nothing row more good e =
    none_some (row, more)
    (sym nothing ∙ ap (decode_row (last_of None rows)) (sym e) ∙ decode_row_encode (last_of None rows) row more (chain_last None rows row (chain_from_good (rows ++ row ∷ []) good)))

-- the value that a refusal of bytes returns, with why it does
abbrev pub Why : List ℕ → Refusal → Type 0
Why bytes refusal = (at : ℕ) × NotSheet bytes at × (cause refusal ≡ record { number = 16; values = at ∷ [] })

over : (rows : List Row) (rest bytes : List ℕ) → Good rows → bytes ≡ encode rows ++ rest → (length rest ≡ 0 → ⊥) → NotSheet bytes 255
over rows [] bytes good e some = absurd (some refl)
over rows (byte ∷ rest) bytes good e some = left_over rows byte rest good e

stop_means : (count : ℕ) (refusal : Refusal) (bytes : List ℕ) → count ≤ most_rows → Stop count 0 None bytes refusal → Why (count ∷ bytes) refusal
unfolding encode
stop_means count refusal bytes few s =
    ⊎_elim
    (λ w. (
      length s.rows,
      no_row count s.rows s.rest few (good_from_chain s.rows (omega (arith, w.1)) s.chain) w.1 (ap (λ l. count ∷ l) s.bytes_are) (no_row_next s.rows s.rest w.2),
      ap cause (w.0 ∙ ap NoRow (zero-add (length s.rows))),
    ))
    (λ w. (
      255,
      over s.rows s.rest (count ∷ bytes) (good_from_chain s.rows (omega (arith, w.1)) s.chain) (λ i. sym w.1 i ∷ s.bytes_are i) w.2,
      ap cause w.0,
    ))
    s.why

abbrev Refused : List ℕ → Result (List Row) Refusal → Type 0
Refused bytes (Ok rows) = Unit {0}
Refused bytes (Err refusal) = Why bytes refusal

rows_refused : (count : ℕ) (bytes : List ℕ) (r : Result (List Row) Refusal) → count ≤ most_rows → Stopped count 0 None bytes r → Refused (count ∷ bytes) r
rows_refused count bytes (Ok rows) few h = tt
rows_refused count bytes (Err refusal) few h = stop_means count refusal bytes few h

decode_refused : (bytes : List ℕ) → Refused bytes (decode bytes)
unfolding decode
decode_refused [] = (255, no_count refl, refl)
decode_refused (count ∷ bytes) =
    cond_both (leb count most_rows) (decode_rows count 0 None bytes) (Err NoSheet) (Refused (count ∷ bytes))
    (λ e. rows_refused count bytes (decode_rows count 0 None bytes) (leb-true count most_rows e) (decode_rows_stops count 0 None bytes))
    (λ e. (255, high_count count bytes refl (leb-false count most_rows e), refl))

pub why_refused : (bytes : List ℕ) (refusal : Refusal) → decode bytes ≡ Err refusal → Why bytes refusal
why_refused bytes refusal e = subst (Refused bytes) e (decode_refused bytes)

-- Rows in front are read, and what stands behind them decides.
behind_none : (r : Result (List Row) Refusal) → r ≡ rows_behind [] r
behind_none (Ok rows) = refl
behind_none (Err refusal) = refl

first_behind : (row : Row) (rows : List Row) (r : Result (List Row) Refusal) → row_first row (rows_behind rows r) ≡ rows_behind (row ∷ rows) r
first_behind row rows (Ok more) = refl
first_behind row rows (Err refusal) = refl

decode_rows_past : (n k : ℕ) (before : Option Row) (rows : List Row) (rest : List ℕ) → Chain before rows →
    decode_rows (length rows + n) k before (flat_map encode_row rows ++ rest) ≡ rows_behind rows (decode_rows n (k + length rows) (last_of before rows) rest)
unfolding decode_rows
decode_rows_past n k before [] rest h =
    let none : 0 + n ≡ n = omega arith in
    let here : k ≡ k + 0 = omega arith in
    ap (λ m. decode_rows m k before rest) none ∙ behind_none (decode_rows n k before rest) ∙ ap (λ m. rows_behind [] (decode_rows n m before rest)) here
decode_rows_past n k before (row ∷ rows) rest h =
    let one : suc (length rows) + n ≡ suc (length rows + n) = omega arith in
    let next : k + 1 + length rows ≡ k + suc (length rows) = omega arith in
    ap (λ m. decode_rows m k before ((encode_row row ++ flat_map encode_row rows) ++ rest)) one
    ∙ ap (λ l. decode_rows (suc (length rows + n)) k before l) (append_assoc (encode_row row) (flat_map encode_row rows) rest)
    ∙ ap (λ o. rows_from k o (λ next more. decode_rows (length rows + n) (k + 1) (Some next) more)) (decode_row_encode before row (flat_map encode_row rows ++ rest) h.0)
    ∙ ap (row_first row) (decode_rows_past n (k + 1) (Some row) rows rest h.1)
    ∙ first_behind row rows (decode_rows n (k + 1 + length rows) (last_of (Some row) rows) rest)
    ∙ ap (λ m. rows_behind (row ∷ rows) (decode_rows n m (last_of (Some row) rows) rest)) next

-- where no row can come next, none is read
none_next : (rows : List Row) (rest : List ℕ) → length rows < most_rows → Chain None rows → NoRowNext rows rest → decode_row (last_of None rows) rest ≡ None
none_next rows rest few chain stuck = go (decode_row (last_of None rows) rest) (decode_row_sound (last_of None rows) rest)
  where
    go : (o : Option (Row × List ℕ)) → RowRead (last_of None rows) rest o → o ≡ None
    go None h = refl
    go (Some p) h =
        let longer : length (rows ++ p.0 ∷ []) ≡ length rows + length (p.0 ∷ []) = length-append rows (p.0 ∷ []) in
        absurd (stuck p.0 p.1 (good_from_chain (rows ++ p.0 ∷ []) (omega arith) (chain_push None rows p.0 chain h.0)) h.1)

-- each reason has its refusal
pub refused_for : (bytes : List ℕ) (at : ℕ) → NotSheet bytes at → (refusal : Refusal) × (decode bytes ≡ Err refusal) × (cause refusal ≡ record { number = 16; values = at ∷ [] })
unfolding decode decode_rows encode
refused_for bytes at (no_count e) = (NoSheet, ap decode e, refl)
refused_for bytes at (high_count count rest e high) = (NoSheet, ap decode e ∙ cond-false (leb count most_rows) _ _ (lt-leb count most_rows high), refl)
refused_for bytes at (left_over rows byte rest good e) = (
  NoSheet,
  ap decode e ∙ cond-true (leb (length rows) most_rows) _ _ (le-leb (length rows) most_rows good.few)
      ∙ (let all : length rows ≡ length rows + 0 = omega arith in ap (λ m. decode_rows m 0 None (flat_map encode_row rows ++ byte ∷ rest)) all)
      ∙ decode_rows_past 0 0 None rows (byte ∷ rest) (chain_from_good rows good),
  refl,
)
refused_for bytes at (no_row count rows rest few good more e stuck) =
    let left = count - (length rows + 1) in
    let all : count ≡ length rows + suc left = omega arith in
    let chain = chain_from_good rows good in (
      NoRow (length rows),
      ap decode e ∙ cond-true (leb count most_rows) _ _ (le-leb count most_rows few)
          ∙ ap (λ m. decode_rows m 0 None (flat_map encode_row rows ++ rest)) all
          ∙ decode_rows_past (suc left) 0 None rows rest chain
          ∙ ap (λ o. rows_behind rows (rows_from (0 + length rows) o (λ row behind. decode_rows left (0 + length rows + 1) (Some row) behind))) (none_next rows rest (omega arith) chain stuck)
          ∙ ap (λ m. Err (NoRow m)) (zero-add (length rows)),
      refl,
    )
