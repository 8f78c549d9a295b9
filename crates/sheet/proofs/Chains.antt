-- Rows that fit one after another, and what that says of them in the words of `Good`.
use Rattle.std.proofs.Common.{◌≡◌, ℕ, ◌+◌, ◌≤◌, true, ltb, leb, List, [], ◌∷◌, length, Some, None, Option, sym, refl, ◌∙◌, ⊎_elim, arith}
use Rattle.std.specs.List.{AllByRecursion}
use Rattle.std.proofs.lemmas.Bool.{ltb-true, lt-ltb, le-leb, and_from, and_parts, cases_Bool, cond-true, cond-false}
use Rattle.sheet.specs.declared.rows.Row.{Row}
use Rattle.sheet.specs.Rows.{most_rows, last_arrival, top_price, InRange, Follows, Ordered, Good, within_range, following, fits, fault_from}
use Rattle.sheet.proofs.Packing.{in_range_true}

abbrev pub Chain : Option Row → List Row → Type 0
Chain before [] = Unit {0}
Chain before (row ∷ rows) = (fits before row ≡ true) × Chain (Some row) rows

never : {A : Type 0} {k : ℕ} → ◌≡◌ {A = Option ℕ} (Some k) None → A
never e = let z : ◌≡◌ {A = ℕ} 0 1 = cc in absurd (omega arith)

pub chain_from_no_fault : (before : Option Row) (k : ℕ) (rows : List Row) → fault_from before k rows ≡ None → Chain before rows
chain_from_no_fault before k [] e = tt
chain_from_no_fault before k (row ∷ rows) e =
    ⊎_elim
    (λ t. (t, chain_from_no_fault (Some row) (k + 1) rows (sym (cond-true (fits before row) (fault_from (Some row) (k + 1) rows) (Some k) t) ∙ e)))
    (λ f. never (sym (cond-false (fits before row) (fault_from (Some row) (k + 1) rows) (Some k) f) ∙ e))
    (cases_Bool (fits before row))

pub no_fault_from_chain : (before : Option Row) (k : ℕ) (rows : List Row) → Chain before rows → fault_from before k rows ≡ None
no_fault_from_chain before k [] h = refl
no_fault_from_chain before k (row ∷ rows) h = cond-true (fits before row) _ _ h.0 ∙ no_fault_from_chain (Some row) (k + 1) rows h.1

range_test : (row : Row) → InRange row → within_range row ≡ true
range_test row h = and_from (leb row.arrival last_arrival) (leb row.price top_price) (le-leb row.arrival last_arrival h.0) (le-leb row.price top_price h.1)

order_test : (before row : Row) → Follows before row → following (Some before) row ≡ true
order_test before row h = and_from (ltb before.arrival row.arrival) (ltb row.price before.price) (lt-ltb before.arrival row.arrival h.0) (lt-ltb row.price before.price h.1)

follows_true : (before row : Row) → fits (Some before) row ≡ true → Follows before row
follows_true before row e =
    let t = and_parts (ltb before.arrival row.arrival) (ltb row.price before.price) (and_parts (within_range row) (following (Some before) row) e).1 in
    (ltb-true before.arrival row.arrival t.0, ltb-true row.price before.price t.1)

chain_after : (before : Row) (rows : List Row) → AllByRecursion InRange rows → Ordered (before ∷ rows) → Chain (Some before) rows
chain_after before [] r o = tt
chain_after before (row ∷ rows) r o =
    (and_from (within_range row) (following (Some before) row) (range_test row r.0) (order_test before row o.0), chain_after row rows r.1 o.1)

pub chain_from_good : (rows : List Row) → Good rows → Chain None rows
chain_from_good [] h = tt
chain_from_good (row ∷ rows) h =
    (and_from (within_range row) true (range_test row h.ranges.0) refl, chain_after row rows h.ranges.1 h.order)

chain_ranges : (before : Option Row) (rows : List Row) → Chain before rows → AllByRecursion InRange rows
chain_ranges before [] h = tt
chain_ranges before (row ∷ rows) h = (in_range_true before row h.0, chain_ranges (Some row) rows h.1)

chain_order : (before : Row) (rows : List Row) → Chain (Some before) rows → Ordered (before ∷ rows)
chain_order before [] h = tt
chain_order before (row ∷ rows) h = (follows_true before row h.0, chain_order row rows h.1)

pub good_from_chain : (rows : List Row) → length rows ≤ most_rows → Chain None rows → Good rows
good_from_chain [] few h = record { few = few; ranges = tt; order = tt }
good_from_chain (row ∷ rows) few h = record { few = few; ranges = chain_ranges None (row ∷ rows) h; order = chain_order row rows h.1 }
