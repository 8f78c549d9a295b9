use Rattle.std.proofs.Common.{◌≡◌, ℕ, ◌+◌, ◌*◌, ◌<◌, ◌≤◌, List, [], ◌∷◌, ◌++◌, length, get_or, take, drop, set, sym, refl, ap, ◌∙◌, arith, length-append, length-set, length-take}
use Rattle.std.specs.List.{flat_map}
use Rattle.std.proofs.lemmas.List.{take_more, take_all, take_at, flat_map_more}
use Rattle.sheet.specs.declared.rows.Row.{Row}
use Rattle.sheet.specs.Format.{encode_row, encode}
use Rattle.sheet.specs.Outcome.{pasted, laid}
use Rattle.sheet.proofs.Packing.{encode_row_le}
use Rattle.sheet.proofs.Sheets.{joined_le, sheet_of}
use Rattle.sheet.proofs.Pasting.{pasted_one, pasted_front, pasted_more}
use Rattle.sheet.proofs.writing.put_sheet.Goals as goal

-- the first rows take at most seven bytes each
few : (i : ℕ) (rows : List Row) → length (flat_map encode_row (take i rows)) ≤ 7 * i
few i rows = omega (arith, joined_le (take i rows), length-take i rows)

pub put_row-end-requires : goal.put_row-end-requires
put_row-end-requires c = omega (arith, few c.loop-row.row-index c.args.rows.now, length-set c.args.sheet.now 0 (length c.args.rows.now))

one_more : (i : ℕ) (rows : List Row) (d : Row) → i < length rows → flat_map encode_row (take i rows) ++ encode_row (get_or rows i d) ≡ flat_map encode_row (take (i + 1) rows)
one_more i rows d lt = flat_map_more encode_row [] (take i rows) (get_or rows i d) ∙ sym (ap (flat_map encode_row) (take_more rows i d lt))

-- one turn: a row is put behind the rows passed
turn : (rows : List Row) (d : Row) (start sheet sheet' : List ℕ) (end end' i : ℕ) → end ≡ 1 + length (flat_map encode_row (take i rows)) → sheet ≡ pasted 1 (flat_map encode_row (take i rows)) start
    → i < length rows → length rows ≤ 32 → 225 ≤ length start
    → end' ≡ end + length (encode_row (get_or rows i d)) → sheet' ≡ pasted end (encode_row (get_or rows i d)) sheet
    → (end' ≡ 1 + length (flat_map encode_row (take (i + 1) rows))) × (sheet' ≡ pasted 1 (flat_map encode_row (take (i + 1) rows)) start)
turn rows d start sheet sheet' end end' i is was lt few_rows room put_end put_sheet =
    let front = flat_map encode_row (take i rows) in
    let row = encode_row (get_or rows i d) in
    let longer : length (front ++ row) ≡ length front + length row = length-append front row in
    let next : end' ≡ 1 + length (front ++ row) = omega arith in (
      next ∙ ap (λ l. 1 + length l) (one_more i rows d lt),
      pasted_more 1 end front row start sheet sheet' is was put_sheet (omega (arith, few i rows, encode_row_le (get_or rows i d))) ∙ ap (λ l. pasted 1 l start) (one_more i rows d lt),
    )

pub loop-row-preserved : goal.loop-row-preserved
loop-row-preserved c =
    let start = set c.args.sheet.now 0 (length c.args.rows.now) in
    let roomy : 225 ≤ length start = omega (arith, length-set c.args.sheet.now 0 (length c.args.rows.now)) in
    turn c.args.rows.now record { arrival = 0; price = 0 } start c.loop-row.sheet c.put_row-end.new.sheet c.loop-row.end c.put_row-end.result c.loop-row.row-index
    c.loop-row.invariant.0 c.loop-row.invariant.1 c.loop-row-test.true c.requires.good.few roomy c.put_row-end.ensures.end c.put_row-end.ensures.left

-- what stands in front of a sheet
front : (bytes list sheet : List ℕ) (end : ℕ) → end ≡ length bytes → sheet ≡ laid bytes list → take end sheet ≡ bytes
front bytes list sheet end is was = ap (take end) was ∙ take_at bytes (drop (length bytes) list) end (sym is)

-- the count and all the rows: that is the sheet
whole : (rows : List Row) (list sheet : List ℕ) (end : ℕ) → end ≡ 1 + length (flat_map encode_row rows) → sheet ≡ pasted 1 (flat_map encode_row rows) (set list 0 (length rows)) → length rows ≤ 32 → 225 ≤ length list → (end ≡ length (encode rows)) × (sheet ≡ laid (encode rows) list)
unfolding encode
whole rows list sheet end is was few_rows room = (
  omega arith,
  pasted_more 0 1 (length rows ∷ []) (flat_map encode_row rows) list (set list 0 (length rows)) sheet refl (pasted_one 0 (length rows) list (omega arith)) was (omega (arith, joined_le rows))
      ∙ pasted_front (length rows ∷ flat_map encode_row rows) list,
)

pub returns : goal.returns
returns c =
    let all : take c.loop-row.row-index c.args.rows.now ≡ c.args.rows.now = take_all c.loop-row.row-index c.args.rows.now c.loop-row-test.false in
    let start = set c.args.sheet.now 0 (length c.args.rows.now) in
    let done = whole c.args.rows.now c.args.sheet.now c.loop-row.sheet c.loop-row.end
    (c.loop-row.invariant.0 ∙ ap (λ l. 1 + length (flat_map encode_row l)) all)
    (c.loop-row.invariant.1 ∙ ap (λ l. pasted 1 (flat_map encode_row l) start) all)
    c.requires.good.few c.requires.room in
    record {
      end = done.0;
      left = done.1;
      meaning = sheet_of c.args.rows.now _ c.requires.good (front (encode c.args.rows.now) c.args.sheet.now c.loop-row.sheet c.loop-row.end done.0 done.1);
    }
