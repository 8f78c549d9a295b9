-- The legs that lead to each label of a store, and how a leg is handed out.
-- Assumes nothing.
use Rattle.std.specs.Prelude.{ℕ, List, [], ◌∷◌, ◌++◌, slice_index_or}
use Rattle.journeys.specs.declared.label.Label.{Label}
use Rattle.journeys.specs.declared.label.Way.{Way}
use Rattle.journeys.specs.declared.label.Way.TheVariants.{Origin, Walked, Rode}
use Rattle.journeys.specs.declared.leg.Leg.{Leg as SheetLeg}
use Rattle.journeys.specs.declared.leg.LegKind.TheVariants.{Walk, Ride}
use Rattle.journeys.specs.Journey.{Leg, walk, ride}

-- the legs to a label, from those of the labels before it
abbrev pub legs_by : Way → List (List Leg) → List Leg
legs_by Origin acc = []
legs_by (Walked path from) acc = slice_index_or acc from [] ++ (walk path ∷ [])
legs_by (Rode first last from) acc = slice_index_or acc from [] ++ (ride first last ∷ [])

abbrev pub traces_from : {S : Type 0} → List (List Leg) → List (Label S) → List (List Leg)
traces_from acc [] = acc
traces_from acc (l ∷ ls) = traces_from (acc ++ (legs_by l.way acc ∷ [])) ls

-- the legs to each label of a store
abbrev pub traces : {S : Type 0} → List (Label S) → List (List Leg)
traces ls = traces_from [] ls

-- the legs to the label at a place
abbrev pub legs_of : {S : Type 0} → List (Label S) → ℕ → List Leg
legs_of ls j = slice_index_or (traces ls) j []

-- a leg as it is handed out with a row: a walk has its footpath twice
abbrev pub spelled : ℕ → Leg → SheetLeg
spelled row (walk i) = record { row = row; kind = Walk; first = i; last = i }
spelled row (ride a b) = record { row = row; kind = Ride; first = a; last = b }
