-- The best offers that a sheet can hold.
-- Assumes nothing.
use Rattle.std.specs.Prelude.{cond, List, length, Ok, Err, Result, nat_lt}
use Rattle.journeys.specs.declared.best_offer.BestOffer.{BestOffer}
use Rattle.sheet.specs.Rows.{most_rows}
use Rattle.planner.specs.declared.refusal.Refusal.{Refusal}
use Rattle.planner.specs.declared.refusal.Refusal.TheVariants.{ManyOffers}

-- at most 32 offers are taken, as they are
abbrev pub selected : List BestOffer → Result (List BestOffer) Refusal
selected offers = cond (nat_lt most_rows (length offers)) (Err (ManyOffers (length offers))) (Ok offers)
