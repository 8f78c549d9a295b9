-- Labels linked by their stops: each place has the place of the next label in the slot of its stop.
-- Assumes nothing. There are 4,096 slots, as many as a network may have stops, so each of its stops has a slot of its own.
use Rattle.std.specs.Prelude.{ℕ, zero, suc, ◌%◌, Bool, cond, List, [], ◌∷◌, map, Some, None, Option, ◌==◌}
use Rattle.journeys.specs.declared.label.Label.{Label}
use Rattle.journeys.specs.declared.label.Way.TheVariants.{Origin}
use Rattle.scan.specs.declared.stored_label.StoredLabel.{StoredLabel}
use Rattle.scan.specs.Links.{link}

abbrev pub slots : ℕ
slots = 4096

-- the slot of a stop
unfoldable pub slot : ℕ → ℕ
slot stop = stop % slots

-- a place in a list, seen from one thing further in front, which counts where nothing behind it does
abbrev pub behind : Bool → Option ℕ → Option ℕ
behind here (Some p) = Some (suc p)
behind here None = cond here (Some 0) None

module _ {X : Type 0} (stop : X → ℕ) where
  -- the place of the first thing in a slot; the list begins at place i
  abbrev pub first_in : ℕ → ℕ → List X → Option ℕ
  first_in k i [] = None
  first_in k i (x ∷ xs) = cond (slot (stop x) == k) (Some i) (first_in k (suc i) xs)

  -- the place of the last thing in a slot; the list begins at place 0
  abbrev pub last_in : ℕ → List X → Option ℕ
  last_in k [] = None
  last_in k (x ∷ xs) = behind (slot (stop x) == k) (last_in k xs)

module _ {S : Type 0} where
  -- labels, each with the place of the next in its slot; the first is written at place i
  abbrev pub linked_from : ℕ → List (Label S) → List (StoredLabel S)
  linked_from i [] = []
  linked_from i (l ∷ ls) = record { label = l; next = link (first_in (λ x. x.stop) (slot l.stop) (suc i) ls) } ∷ linked_from (suc i) ls

  -- a whole store
  abbrev pub linked : List (Label S) → List (StoredLabel S)
  linked ls = linked_from 0 ls

  -- what a place holds before a label is written there
  abbrev pub blank_label : S → StoredLabel S
  blank_label state = record { label = record { stop = 0; time = 0; rides = 0; state = state; way = Origin }; next = link None }

  -- the labels alone
  abbrev pub labels_in : List (StoredLabel S) → List (Label S)
  labels_in = map (λ l. l.label)

-- the label at place p leads on to place n
abbrev pub lead : {S : Type 0} → ℕ → ℕ → List (StoredLabel S) → List (StoredLabel S)
lead p n [] = []
lead zero n (l ∷ ls) = record { label = l.label; next = link (Some n) } ∷ ls
lead (suc p) n (l ∷ ls) = l ∷ lead p n ls
