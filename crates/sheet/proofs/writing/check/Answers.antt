use Rattle.std.proofs.Common.{◌≡◌, ℕ, ◌<◌, ◌≤◌, List, length, Some, None, Option, sym, ap, ◌∙◌}
use Rattle.std.proofs.lemmas.Bool.{lt-ltb, le-ltb, leb-true, leb-false, cond-true, cond-false}
use Rattle.sheet.specs.declared.rows.Row.{Row}
use Rattle.sheet.specs.declared.refusals.Refusal.TheVariants.{SheetShort, NoSheet}
use Rattle.sheet.specs.Rows.{most_rows, first_fault}
use Rattle.sheet.specs.Format.{sheet_bytes}
use Rattle.sheet.specs.Outcome.{faulted, write_refusal}
use Rattle.sheet.proofs.Causes.{checked}
use Rattle.sheet.proofs.writing.check.Goals as goal

module _ (rows : List Row) (room : ℕ) where
  too_short : room < sheet_bytes → Some SheetShort ≡ write_refusal rows room
  too_short h = sym (cond-true _ _ _ (lt-ltb room sheet_bytes h))

  too_many : sheet_bytes ≤ room → most_rows < length rows → Some NoSheet ≡ write_refusal rows room
  too_many enough h = sym (cond-false _ _ _ (le-ltb room sheet_bytes enough) ∙ cond-true _ _ _ (lt-ltb most_rows (length rows) h))

  by_row : sheet_bytes ≤ room → length rows ≤ most_rows → (fault : Option ℕ) → fault ≡ first_fault rows → faulted fault ≡ write_refusal rows room
  by_row enough few fault is = sym (cond-false _ _ _ (le-ltb room sheet_bytes enough) ∙ cond-false _ _ _ (le-ltb most_rows (length rows) few) ∙ ap faulted (sym is))

pub returns-then-room-lt-SHEET_BYTES : goal.returns-then-room-lt-SHEET_BYTES
returns-then-room-lt-SHEET_BYTES c =
    let e = too_short c.args.rows.now c.args.room c.if-room-lt-SHEET_BYTES.true in
    record { refusal = e; reason = checked c.args.rows.now c.args.room _ e }

pub returns-then-not-is_count : goal.returns-then-not-is_count
returns-then-not-is_count c =
    let e = too_many c.args.rows.now c.args.room c.if-room-lt-SHEET_BYTES.false (leb-false (length c.args.rows.now) most_rows (sym c.if-not-is_count.ensures)) in
    record { refusal = e; reason = checked c.args.rows.now c.args.room _ e }

pub returns-in-Some : goal.returns-in-Some
returns-in-Some c =
    let e = by_row c.args.rows.now c.args.room c.if-room-lt-SHEET_BYTES.false (leb-true (length c.args.rows.now) most_rows (sym c.if-not-is_count.ensures)) (Some c.in-Some.row) c.in-Some.ensures in
    record { refusal = e; reason = checked c.args.rows.now c.args.room _ e }

pub returns : goal.returns
returns c =
    let e = by_row c.args.rows.now c.args.room c.if-room-lt-SHEET_BYTES.false (leb-true (length c.args.rows.now) most_rows (sym c.if-not-is_count.ensures)) None c.in_default.ensures in
    record { refusal = e; reason = checked c.args.rows.now c.args.room _ e }
