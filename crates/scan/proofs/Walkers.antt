-- The loop in which the footpaths of a stop are offered, along their chain. Assumes nothing.
use Rattle.std.proofs.Common.{◌≡◌, ℕ, suc, ◌∷◌, List, drop, Some, Option}
use Rattle.journeys.specs.declared.label.Label.{Label}
use Rattle.journeys.specs.declared.network.Footpath.{Footpath}
use Rattle.journeys.specs.Fare.{FareModel}
use Rattle.journeys.specs.Runs.{on}
use Rattle.journeys.specs.Scan.{walk}
use Rattle.scan.specs.declared.store.Store.{Store}
use Rattle.scan.specs.Chains.{slot, first_in}
use Rattle.scan.specs.Stores.{Chained, Extended, labels_of, room_of}
use Rattle.scan.proofs.Extending.{extended_same, extended_then}
use Rattle.scan.proofs.PathTables.{path_from}
use Rattle.scan.proofs.Slots.{walks_none}
use Rattle.scan.proofs.Walks.{Along, sets_out, walks_on}

-- from the label l at place j
module _ {S : Type 0} (f : FareModel S) (j : ℕ) (l : Label S) where
  -- the footpaths of its stop before a place have been offered
  abbrev pub Walking : Store S → Store S → List Footpath → Option ℕ → Type 0
  Walking = Along path_from (slot l.stop) labels_of room_of Extended (λ a b extended. extended.room) extended_then (λ r. walk f r j l) (λ r i p ls. walks_none f r j l i p ls)

  pub none_walked : (start : Store S) (ps : List Footpath) → Chained start → Walking start start ps (first_in path_from (slot l.stop) 0 ps)
  none_walked start ps chained =
      sets_out path_from (slot l.stop) labels_of room_of Extended (λ a b extended. extended.room) extended_then (λ r. walk f r j l) (λ r i p ls. walks_none f r j l i p ls) start ps (extended_same start chained)

  pub one_walked : (start mid new : Store S) (ps : List Footpath) (i : ℕ) (p : Footpath) (next : Option ℕ) → Walking start mid ps (Some i) → drop i ps ≡ p ∷ drop (suc i) ps
      → walk f (room_of mid) j l i p (labels_of mid) ≡ on (labels_of new) → Extended mid new → next ≡ first_in path_from (slot p.from) (suc i) (drop (suc i) ps) → Walking start new ps next
  one_walked = walks_on path_from (slot l.stop) labels_of room_of Extended (λ a b extended. extended.room) extended_then (λ r. walk f r j l) (λ r i p ls. walks_none f r j l i p ls)
