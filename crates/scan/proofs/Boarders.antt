-- The loop in which the labels of a stop board, along their chain. Assumes nothing.
use Rattle.std.proofs.Common.{◌≡◌, ℕ, suc, ◌∷◌, List, length, drop, Some, Option}
use Rattle.timetable.specs.declared.hops.Hop.{Hop}
use Rattle.journeys.specs.declared.label.Label.{Label}
use Rattle.journeys.specs.declared.label.Passenger.{Passenger}
use Rattle.journeys.specs.Fare.{FareModel}
use Rattle.journeys.specs.Runs.{on}
use Rattle.journeys.specs.Scan.{board}
use Rattle.scan.specs.declared.filled.Filled.{Filled}
use Rattle.scan.specs.Chains.{slot, first_in}
use Rattle.scan.specs.Filling.{filled, Kept}
use Rattle.scan.proofs.Chains.{stop_of}
use Rattle.scan.proofs.Filling.{kept_then, kept_same}
use Rattle.scan.proofs.Slots.{boards_none}
use Rattle.scan.proofs.Walks.{Along, sets_out, walks_on}

abbrev pub places_in : {X : Type 0} → Filled X → ℕ
places_in a = length a.places.now

module _ {S : Type 0} (f : FareModel S) (k i : ℕ) (h : Hop) where
  -- the labels of the stop before a place have boarded
  abbrev pub Boarding : Filled (Passenger S) → Filled (Passenger S) → List (Label S) → Option ℕ → Type 0
  Boarding = Along stop_of (slot h.from) filled places_in Kept (λ a b kept. kept.room) kept_then (λ r. board f r k i h) (λ r j l ps. boards_none f h r k i j l ps)

  pub none_yet : (start : Filled (Passenger S)) (ls : List (Label S)) → Boarding start start ls (first_in stop_of (slot h.from) 0 ls)
  none_yet start ls = sets_out stop_of (slot h.from) filled places_in Kept (λ a b kept. kept.room) kept_then (λ r. board f r k i h) (λ r j l ps. boards_none f h r k i j l ps) start ls (kept_same start)

  pub boards_on : (start mid new : Filled (Passenger S)) (ls : List (Label S)) (p : ℕ) (l : Label S) (next : Option ℕ) → Boarding start mid ls (Some p) → drop p ls ≡ l ∷ drop (suc p) ls
      → board f (places_in mid) k i h p l (filled mid) ≡ on (filled new) → Kept mid new → next ≡ first_in stop_of (slot l.stop) (suc p) (drop (suc p) ls) → Boarding start new ls next
  boards_on = walks_on stop_of (slot h.from) filled places_in Kept (λ a b kept. kept.room) kept_then (λ r. board f r k i h) (λ r j l ps. boards_none f h r k i j l ps)
