-- Which rows are written: exactly the good ones, where there is room.
use Rattle.std.proofs.Common.{◌≡◌, ℕ, ◌≤◌, ltb, List, length, None, Ok, ap, ◌∙◌}
use Rattle.std.proofs.lemmas.Bool.{le-ltb, cond-false}
use Rattle.sheet.specs.declared.rows.Row.{Row}
use Rattle.sheet.specs.Rows.{most_rows, Good, first_fault}
use Rattle.sheet.specs.Format.{sheet_bytes, encode}
use Rattle.sheet.specs.Outcome.{faulted, write_refusal, written, writing, accepted}
use Rattle.sheet.proofs.Chains.{chain_from_good, chain_from_no_fault, no_fault_from_chain, good_from_chain}

-- good rows have no fault, and few rows without a fault are good
pub good_no_fault : (rows : List Row) → Good rows → first_fault rows ≡ None
good_no_fault rows good = no_fault_from_chain None 0 rows (chain_from_good rows good)

pub no_fault_good : (rows : List Row) → length rows ≤ most_rows → first_fault rows ≡ None → Good rows
no_fault_good rows few e = good_from_chain rows few (chain_from_no_fault None 0 rows e)

module _ (rows : List Row) (sheet : List ℕ) (good : Good rows) (room : sheet_bytes ≤ length sheet) where
  good_unrefused : write_refusal rows (length sheet) ≡ None
  good_unrefused =
      cond-false (ltb (length sheet) sheet_bytes) _ _ (le-ltb (length sheet) sheet_bytes room)
      ∙ cond-false (ltb most_rows (length rows)) _ _ (le-ltb most_rows (length rows) good.few)
      ∙ ap faulted (good_no_fault rows good)

  -- good rows are written whole, in front of what else the sheet holds
  pub good_written : writing rows sheet ≡ accepted (encode rows) sheet
  good_written = ap (written rows sheet) good_unrefused

  -- and the answer is the length of their bytes
  pub good_answered : (writing rows sheet).answer ≡ Ok (length (encode rows))
  good_answered = ap (λ o. o.answer) good_written
