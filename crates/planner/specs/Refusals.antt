-- The number of each refusal on the refusal board, and the values that it returns.
-- Assumes nothing.
use Rattle.std.specs.Prelude.{ℕ, [], ◌∷◌, Ok, Err, Result}
use Rattle.planner.specs.declared.answer.Answer.{Answer}
use Rattle.planner.specs.declared.refusal.Field.{Field}
use Rattle.planner.specs.declared.refusal.Field.TheVariants.{Origin, Destination, Departure, Rides, Count}
use Rattle.planner.specs.declared.refusal.NetworkList.{NetworkList}
use Rattle.planner.specs.declared.refusal.NetworkList.TheVariants.{Stops, Footpaths, Hops}
use Rattle.planner.specs.declared.refusal.OutputList.{OutputList}
use Rattle.planner.specs.declared.refusal.OutputList.TheVariants.{Sheet, Legs}
use Rattle.planner.specs.declared.refusal.Refusal.{Refusal}
use Rattle.planner.specs.declared.refusal.Refusal.TheVariants.{Question, Network, ShortOutput, StoreFull, AboardFull, ManyOffers}
use Rattle.sheet.specs.Refusals.{Cause}

-- the number of a field
abbrev pub field_number : Field → ℕ
field_number Origin = 0
field_number Destination = 1
field_number Departure = 2
field_number Rides = 3
field_number Count = 4

-- the number of a list that the answer rests on
abbrev pub list_number : NetworkList → ℕ
list_number Stops = 0
list_number Footpaths = 1
list_number Hops = 2

-- the number of a list that the answer is written to
abbrev pub output_number : OutputList → ℕ
output_number Sheet = 0
output_number Legs = 1

-- a refusal's number and values
abbrev pub cause : Refusal → Cause
cause (Question field) = record { number = 9; values = field_number field ∷ [] }
cause (Network list place) = record { number = 10; values = list_number list ∷ place ∷ [] }
cause (ShortOutput output) = record { number = 11; values = output_number output ∷ [] }
cause (StoreFull labels) = record { number = 12; values = labels ∷ [] }
cause (AboardFull hop) = record { number = 13; values = hop ∷ [] }
cause (ManyOffers offers) = record { number = 14; values = offers ∷ [] }

-- an answer, with a refusal by its number and values
abbrev pub numbered : Result Answer Refusal → Result Answer Cause
numbered (Ok answer) = Ok answer
numbered (Err refusal) = Err (cause refusal)
