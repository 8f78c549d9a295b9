use Rattle.std.proofs.Common.{◌≡◌, ℕ, ◌+◌, ◌-◌, ◌<◌, ◌≤◌, List, [], ◌∷◌, ◌++◌, length, get_or, Some, Err, sym, ap, ◌∙◌, subst, arith, length-append}
use Rattle.std.proofs.lemmas.Bool.{lt-ltb, leb-true, leb-false, eqb-true, eqb-false, cond-true}
use Rattle.short_list.specs.Items.{items}
use Rattle.sheet.specs.declared.rows.Row.{Row}
use Rattle.sheet.specs.declared.refusals.Refusal.{Refusal}
use Rattle.sheet.specs.declared.refusals.Refusal.TheVariants.{NoRow}
use Rattle.sheet.specs.Reading.{decode_rows, decode}
use Rattle.sheet.specs.Promise.{Taken}
use Rattle.sheet.proofs.Causes.{readable, unreadable, none_told, some_told, told_err}
use Rattle.sheet.proofs.Sheets.{rows_behind, sheet_decoded, count_missing, count_high, counted, stop_row, turn_row, all_read, some_left}
use Rattle.sheet.proofs.reading.take_rows.Goals as goal

-- a refusal, and why
refuses : (sheet : List ℕ) (refusal : Refusal) → decode sheet ≡ Err refusal → Taken {X = List Row} (λ l. l) sheet (Err refusal)
refuses sheet refusal e = (e, unreadable sheet refusal e)

pub returns-in_default : goal.returns-in_default
returns-in_default c = refuses c.args.sheet.now _ (count_missing c.args.sheet.now (omega arith))

pub returns-then-not-is_count : goal.returns-then-not-is_count
returns-then-not-is_count c = refuses c.args.sheet.now _ (count_high c.args.sheet.now (leb-false (get_or c.args.sheet.now 0 0) 32 (sym c.if-not-is_count.ensures)))

pub returns-in_err-row : goal.returns-in_err-row
returns-in_err-row c =
    let sheet = c.args.sheet.now in
    let t = none_told _ _ (NoRow c.loop-k.k) c.take_row.result c.ok_or.result c.in_err-row.field-0.0 c.ok_or.ensures.value c.in_err-row.was c.take_row.ensures in
    let told : c.from_residual.result ≡ Err (NoRow c.loop-k.k) = told_err c.from_residual.result c.in_err-row.field-0.0 c.from_residual.ensures.1 ∙ ap Err t.0 in
    subst (Taken items sheet) (sym told)
    (refuses sheet _
    (counted sheet (omega arith) (leb-true (get_or sheet 0 0) 32 (sym c.if-not-is_count.ensures))
    ∙ stop_row _ (items c.loop-k.found) c.loop-k.before c.loop-k.rest.now (get_or sheet 0 0) c.loop-k.k c.loop-k.invariant.1 c.loop-k-test.true t.1))

pub loop-k-preserved : goal.loop-k-preserved
loop-k-preserved c =
    let few : length (items c.loop-k.found) < 32 = omega (arith, c.loop-k.invariant.0, leb-true (get_or c.args.sheet.now 0 0) 32 (sym c.if-not-is_count.ensures)) in
    let pushed : items c.push.new.self ≡ items c.loop-k.found ++ c.in_ok-row.row ∷ [] = c.push.ensures.items ∙ cond-true _ _ _ (lt-ltb _ _ few) in
    let read = some_told _ _ (NoRow c.loop-k.k) c.take_row.result c.ok_or.result (c.in_ok-row.row, c.in_ok-row.behind) c.ok_or.ensures.value c.in_ok-row.was c.take_row.ensures in (
      ap length pushed ∙ length-append (items c.loop-k.found) (c.in_ok-row.row ∷ []) ∙ ap (λ n. n + 1) c.loop-k.invariant.0,
      ap (λ rows. rows_behind rows (decode_rows (get_or c.args.sheet.now 0 0 - (c.loop-k.k + 1)) (c.loop-k.k + 1) (Some c.in_ok-row.row) c.in_ok-row.behind.now)) pushed
          ∙ turn_row _ (items c.loop-k.found) c.loop-k.before c.loop-k.rest.now (get_or c.args.sheet.now 0 0) c.loop-k.k c.loop-k.invariant.1 c.in_ok-row.row c.in_ok-row.behind.now
          c.loop-k-test.true read,
    )

pub returns-then-is_empty : goal.returns-then-is_empty
returns-then-is_empty c =
    let sheet = c.args.sheet.now in
    let few : get_or sheet 0 0 ≤ 32 = leb-true (get_or sheet 0 0) 32 (sym c.if-not-is_count.ensures) in
    let done = counted sheet (omega arith) few
    ∙ all_read _ (items c.loop-k.found) c.loop-k.before c.loop-k.rest.now (get_or sheet 0 0) c.loop-k.k c.loop-k.invariant.1 c.loop-k-test.false
    (eqb-true (length c.loop-k.rest.now) 0 (sym c.if-is_empty.ensures)) in
    (omega (arith, c.loop-k.invariant.0, few), done, sheet_decoded sheet (items c.loop-k.found) done, readable sheet (items c.loop-k.found) done)

pub returns-else-is_empty : goal.returns-else-is_empty
returns-else-is_empty c =
    let sheet = c.args.sheet.now in
    refuses sheet _
    (counted sheet (omega arith) (leb-true (get_or sheet 0 0) 32 (sym c.if-not-is_count.ensures))
    ∙ some_left _ (items c.loop-k.found) c.loop-k.before c.loop-k.rest.now (get_or sheet 0 0) c.loop-k.k c.loop-k.invariant.1 c.loop-k-test.false
    (eqb-false (length c.loop-k.rest.now) 0 (sym c.if-is_empty.ensures)))
