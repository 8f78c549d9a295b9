-- The filled places of a lent list, and what stays as they grow.
-- Assumes nothing.
use Rattle.std.specs.Prelude.{◌≡◌, ℕ, ◌≤◌, Bool, cond, List, [], ◌∷◌, ◌++◌, length, take, Ok, Err, Result, nat_lt}
use Rattle.journeys.specs.declared.full.Full.{Full}
use Rattle.journeys.specs.Runs.{Run, on, ended, overlay}
use Rattle.scan.specs.declared.filled.Filled.{Filled}

-- what fills the first places
abbrev pub filled : {X : Type 0} → Filled X → List X
filled f = take f.used f.places.now

-- the run that has come to x, by its answer
abbrev pub ran : {X : Type 0} → Result (Unit {0}) Full → X → Run X
ran (Ok done) x = on x
ran (Err q) x = ended q x

-- x is written next, where there is room for it, unless it is covered
abbrev pub next_unless : {X : Type 0} → Bool → ℕ → Full → X → List X → Run (List X)
next_unless covered room q x xs = cond covered (on xs) (cond (nat_lt (length xs) room) (on (xs ++ (x ∷ []))) (ended q xs))

-- The same lent list: what filled its first places fills them still, and behind what fills them now it is as it was.
pub record Kept {X : Type 0} (old new : Filled X) : Type 0 where
  pub same : new.places.ghost_name ≡ old.places.ghost_name
  pub room : length new.places.now ≡ length old.places.now
  pub longer : old.used ≤ new.used
  pub first : take old.used new.places.now ≡ filled old
  pub behind : new.places.now ≡ overlay (filled new) old.places.now
