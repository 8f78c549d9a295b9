-- What is written for the best offers of a store: a row for each, and the legs to its label.
-- Assumes nothing.
use Rattle.std.specs.Prelude.{ℕ, suc, List, [], ◌∷◌, ◌++◌, map}
use Rattle.journeys.specs.declared.best_offer.BestOffer.{BestOffer}
use Rattle.journeys.specs.declared.label.Label.{Label}
use Rattle.journeys.specs.declared.leg.Leg.{Leg}
use Rattle.journeys.specs.Traces.{legs_of, spelled}
use Rattle.sheet.specs.declared.rows.Row.{Row}

-- the row of an offer
abbrev pub row_of : BestOffer → Row
row_of o = record { arrival = o.arrival; price = o.price }

-- the legs to the labels of the offers, row by row; the first has the number `row`
abbrev pub legs_from : {S : Type 0} → List (Label S) → ℕ → List BestOffer → List Leg
legs_from ls row [] = []
legs_from ls row (o ∷ os) = map (spelled row) (legs_of ls o.label) ++ legs_from ls (suc row) os
