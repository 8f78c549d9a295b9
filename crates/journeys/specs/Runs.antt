-- Runs that write into lists with so many places, and end where one of them is full.
-- Assumes nothing.
use Rattle.std.specs.Prelude.{ℕ, suc, Bool, cond, List, [], ◌∷◌, ◌++◌, length, drop, nat_lt}
use Rattle.journeys.specs.declared.full.Full.{Full}
use Rattle.journeys.specs.Lists.{any}

-- what a list of places holds once the first of them were written
abbrev pub overlay : {A : Type 0} → List A → List A → List A
overlay xs old = xs ++ drop (length xs) old

-- a state to go on from, or the one in which a list was full
pub data Run (X : Type 0) : Type 0 where
  on : X → Run X
  ended : Full → X → Run X

-- a run, and then another from where it has come to
abbrev pub and_then : {X : Type 0} → Run X → (X → Run X) → Run X
and_then (on x) f = f x
and_then (ended q x) f = ended q x

-- the same run, seen as one of something larger
abbrev pub within : {X Y : Type 0} → (X → Y) → Run X → Run Y
within f (on x) = on (f x)
within f (ended q x) = ended q (f x)

-- from the left, with each element's place, up to where a list is full
abbrev pub run_each : {A X : Type 0} → (ℕ → A → X → Run X) → ℕ → List A → X → Run X
run_each f i [] x = on x
run_each f i (a ∷ more) x = and_then (f i a x) (run_each f (suc i) more)

-- x is written next, where there is room for it, unless an earlier one passes the test
abbrev pub push : {A : Type 0} → (A → Bool) → ℕ → Full → A → List A → Run (List A)
push test room q x xs = cond (any test xs) (on xs) (cond (nat_lt (length xs) room) (on (xs ++ (x ∷ []))) (ended q xs))

-- what a run has made
abbrev pub result_of : {X : Type 0} → Run X → X
result_of (on x) = x
result_of (ended q x) = x
