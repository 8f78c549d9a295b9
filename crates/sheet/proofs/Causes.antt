-- Each refusal has its cause, each cause its refusal, and no two causes stand at once.
use Rattle.std.proofs.Common.{◌≡◌, ℕ, ◌<◌, ◌≤◌, Bool, true, false, cond, ltb, List, [], length, Some, None, Ok, Err, Option, Result, ok_or, IsErrAnd, MatchOption, sym, refl, ap, ◌∙◌, subst, arith}
use Rattle.std.proofs.lemmas.Bool.{lt-ltb, le-ltb, ltb-true, ltb-false, cond-true, cond-false}
use Rattle.sheet.specs.declared.rows.Row.{Row}
use Rattle.sheet.specs.declared.refusals.Refusal.{Refusal}
use Rattle.sheet.specs.declared.refusals.Refusal.TheVariants.{SheetShort, NoRow, NoSheet}
use Rattle.sheet.specs.Rows.{most_rows, Good, first_fault}
use Rattle.sheet.specs.Format.{sheet_bytes}
use Rattle.sheet.specs.Reading.{decode}
use Rattle.sheet.specs.Refusals.{Cause, cause}
use Rattle.sheet.specs.Outcome.{faulted, write_refusal}
use Rattle.sheet.specs.Promise.{NotWritten, NotRead, Only, Never, Checked, short_sheet, many_rows, bad_row, few_rows, no_sheet}
use Rattle.sheet.proofs.Chains.{chain_from_no_fault, good_from_chain}
use Rattle.sheet.proofs.Faults.{fault_is_bad, fault_at, why_refused, refused_for}

-- Writing.

-- a cause that stands is the refusal's
pub write_refused_for : (rows : List Row) (room : ℕ) (c : Cause) → NotWritten rows room c → (refusal : Refusal) × (write_refusal rows room ≡ Some refusal) × (cause refusal ≡ c)
write_refused_for rows room c (short_sheet short) = (SheetShort, cond-true (ltb room sheet_bytes) _ _ (lt-ltb room sheet_bytes short), refl)
write_refused_for rows room c (many_rows enough many) = (
  NoSheet,
  cond-false (ltb room sheet_bytes) _ _ (le-ltb room sheet_bytes enough) ∙ cond-true (ltb most_rows (length rows)) _ _ (lt-ltb most_rows (length rows) many),
  refl,
)
write_refused_for rows room c (bad_row k enough few bad) = (
  NoRow k,
  cond-false (ltb room sheet_bytes) _ _ (le-ltb room sheet_bytes enough) ∙ cond-false (ltb most_rows (length rows)) _ _ (le-ltb most_rows (length rows) few) ∙ ap faulted (fault_at rows k few bad),
  refl,
)

-- what the three tests leave: the cause of a refusal, or good rows
abbrev Reason : List Row → ℕ → Option Refusal → Type 0
Reason rows room None = Good rows × (sheet_bytes ≤ room)
Reason rows room (Some refusal) = NotWritten rows room (cause refusal)

reason : (rows : List Row) (room : ℕ) → Reason rows room (write_refusal rows room)
reason rows room = by_room (ltb room sheet_bytes) refl
  where
    by_fault : sheet_bytes ≤ room → length rows ≤ most_rows → (o : Option ℕ) → first_fault rows ≡ o → Reason rows room (faulted o)
    by_fault enough few None e = (good_from_chain rows few (chain_from_no_fault None 0 rows e), enough)
    by_fault enough few (Some k) e = bad_row k enough few (fault_is_bad rows k few e)

    by_count : sheet_bytes ≤ room → (b : Bool) → ltb most_rows (length rows) ≡ b → Reason rows room (cond b (Some NoSheet) (faulted (first_fault rows)))
    by_count enough true e = many_rows enough (ltb-true most_rows (length rows) e)
    by_count enough false e = by_fault enough (ltb-false most_rows (length rows) e) (first_fault rows) refl

    by_room : (b : Bool) → ltb room sheet_bytes ≡ b → Reason rows room (cond b (Some SheetShort) (cond (ltb most_rows (length rows)) (Some NoSheet) (faulted (first_fault rows))))
    by_room true e = short_sheet (ltb-true room sheet_bytes e)
    by_room false e = by_count (ltb-false room sheet_bytes e) (ltb most_rows (length rows)) refl

none_some : {A : Type 0} (x : Refusal) → ◌≡◌ {A = Option Refusal} None (Some x) → A
none_some x e = let z : ◌≡◌ {A = ℕ} 0 1 = cc in absurd (omega arith)

some_same : (x y : Refusal) → ◌≡◌ {A = Option Refusal} (Some x) (Some y) → x ≡ y
some_same x y e = cc

pub checked : (rows : List Row) (room : ℕ) (o : Option Refusal) → o ≡ write_refusal rows room → Checked rows room o
checked rows room None e =
    let good : Reason rows room None = subst (Reason rows room) (sym e) (reason rows room) in
    (good.0, good.1, λ c why. let w = write_refused_for rows room c why in none_some w.0 (e ∙ w.1))
checked rows room (Some refusal) e = record {
  stands = subst (Reason rows room) (sym e) (reason rows room);
  alone = λ other why. let w = write_refused_for rows room other why in sym w.2 ∙ ap cause (some_same w.0 refusal (sym w.1 ∙ sym e));
}

-- Reading.

ok_err : {A : Type 0} (rows : List Row) (x : Refusal) → ◌≡◌ {A = Result (List Row) Refusal} (Ok rows) (Err x) → A
ok_err rows x e = let z : ◌≡◌ {A = ℕ} 0 1 = cc in absurd (omega arith)

err_same : (x y : Refusal) → ◌≡◌ {A = Result (List Row) Refusal} (Err x) (Err y) → x ≡ y
err_same x y e = cc

-- where there is room, a cause that stands is the refusal's
read_refused_for : (bytes : List ℕ) (room : ℕ) (c : Cause) → most_rows ≤ room → NotRead bytes room c → (refusal : Refusal) × (decode bytes ≡ Err refusal) × (cause refusal ≡ c)
read_refused_for bytes room c enough (few_rows few) = absurd (omega arith)
read_refused_for bytes room c enough (no_sheet at room_is why) = refused_for bytes at why

pub readable : (bytes : List ℕ) (rows : List Row) → decode bytes ≡ Ok rows → (room : ℕ) → most_rows ≤ room → Never (NotRead bytes room)
readable bytes rows e room enough c why = let w = read_refused_for bytes room c enough why in ok_err rows w.0 (sym e ∙ w.1)

pub unreadable : (bytes : List ℕ) (refusal : Refusal) → decode bytes ≡ Err refusal → (room : ℕ) → most_rows ≤ room → Only (NotRead bytes room) (cause refusal)
unreadable bytes refusal e room enough =
    let w = why_refused bytes refusal e in
    record {
      stands = subst (NotRead bytes room) (sym w.2) (no_sheet w.0 enough w.1);
      alone = λ other why. let v = read_refused_for bytes room other enough why in sym v.2 ∙ ap cause (err_same v.0 refusal (sym v.1 ∙ e));
    }

-- where there is none, no other cause stands
few_alone : (bytes : List ℕ) (room : ℕ) (other : Cause) → room < most_rows → NotRead bytes room other → other ≡ record { number = 15; values = [] }
few_alone bytes room other few (few_rows h) = refl
few_alone bytes room other few (no_sheet at enough why) = absurd (omega arith)

pub no_room : (bytes : List ℕ) (room : ℕ) → room < most_rows → Only (NotRead bytes room) record { number = 15; values = [] }
no_room bytes room few = record { stands = few_rows few; alone = λ other why. few_alone bytes room other few why }

-- what an option says where it is told as a result
module _ {A E : Type 0} (P : Type 0) (Q : A → Type 0) (e : E) where
  pub none_told : (o : Option A) (m : Result A E) (d : E) → m ≡ ok_or o e → m ≡ Err d → MatchOption o P Q → (d ≡ e) × P
  none_told None m d v w h = ((let z : d ≡ e = cc in z), h)
  none_told (Some x) m d v w h = absurd (let z : ◌≡◌ {A = ℕ} 0 1 = cc in omega arith)

  pub some_told : (o : Option A) (m : Result A E) (x : A) → m ≡ ok_or o e → m ≡ Ok x → MatchOption o P Q → Q x
  some_told None m x v w h = absurd (let z : ◌≡◌ {A = ℕ} 0 1 = cc in omega arith)
  some_told (Some y) m x v w h = subst Q (let z : y ≡ x = cc in z) h

pub told_err : {X E : Type 0} (r : Result X E) (x : E) → IsErrAnd r (λ e. e ≡ x) → r ≡ Err x
told_err (Ok v) x h = absurd h
told_err (Err e) x h = ap Err h
