-- Stores whose labels come from earlier ones, and the last leg to a label.
-- Assumes nothing.
use Rattle.std.specs.Prelude.{ℕ, suc, ◌<◌, List, [], ◌∷◌, Option, Some, None}
use Rattle.std.specs.Coded.{Unit-prop, ×_prop, le_prop}
use Rattle.journeys.specs.declared.label.Label.{Label}
use Rattle.journeys.specs.declared.label.Way.{Way}
use Rattle.journeys.specs.declared.label.Way.TheVariants.{Origin, Walked, Rode}
use Rattle.journeys.specs.declared.leg.Leg.{Leg}
use Rattle.journeys.specs.Journey.{walk, ride}
use Rattle.journeys.specs.Lists.{Eachi}
use Rattle.journeys.specs.Traces.{spelled}

-- the label that a way comes from stands before the place j
abbrev pub Earlier : ℕ → Way → Type 0
Earlier j Origin = Unit {0}
Earlier j (Walked path from) = from < j
Earlier j (Rode first last from) = from < j

-- every label comes from an earlier one
abbrev pub Backward : {S : Type 0} → List (Label S) → Type 0
Backward ls = Eachi (λ j l. Earlier j l.way) 0 ls

-- the last leg of a journey, as it is handed out with a row, and the place of the label before it
abbrev pub last_leg : ℕ → Way → Option (Leg × ℕ)
last_leg row Origin = None
last_leg row (Walked path from) = Some (spelled row (walk path), from)
last_leg row (Rode first last from) = Some (spelled row (ride first last), from)

-- that a store's labels come from earlier ones is a plain fact
earlier_prop : (j : ℕ) (w : Way) → IsProp (Earlier j w)
earlier_prop j Origin = Unit-prop
earlier_prop j (Walked path from) = le_prop
earlier_prop j (Rode first last from) = le_prop

eachi_prop : {A : Type 0} (P : ℕ → A → Type 0) → ((j : ℕ) (x : A) → IsProp (P j x)) → (i : ℕ) (xs : List A) → IsProp (Eachi P i xs)
eachi_prop P p i [] = Unit-prop
eachi_prop P p i (x ∷ xs) = ×_prop (p i x) (eachi_prop P p (suc i) xs)

pub backward_prop : {S : Type 0} (ls : List (Label S)) → IsProp (Backward ls)
backward_prop ls = eachi_prop (λ j l. Earlier j l.way) (λ j l. earlier_prop j l.way) 0 ls
