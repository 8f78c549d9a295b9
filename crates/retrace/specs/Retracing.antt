-- What is answered about legs that were handed out, and what the list of steps holds then.
-- Assumes nothing.
use Rattle.std.specs.Prelude.{◌≡◌, ℕ, suc, ◌<◌, ◌≤◌, List, length, take, Some, Ok, Err, Result}
use Rattle.std.specs.List.{slice_get}
use Rattle.sheet.specs.Outcome.{laid}
use Rattle.journeys.specs.declared.leg.Leg.{Leg as SheetLeg}
use Rattle.journeys.specs.Journey.{Setup, Leg, Journey, last}
use Rattle.journeys.specs.Lists.{Each}
use Rattle.retrace.specs.declared.fault.Fault.{Fault}
use Rattle.retrace.specs.declared.fault.Fault.TheVariants.{DoesNotFollow, TooFewSteps}
use Rattle.retrace.specs.declared.misstep.Misstep.{Misstep}
use Rattle.retrace.specs.declared.step.Step.{Step}
use Rattle.retrace.specs.Missteps.{SpellsOut, Stumbles}
use Rattle.retrace.specs.Steps.{step_at, parts_of, steps_of}

-- The legs handed out spell out the journey ls; its steps stand in front, and the rest of the list stays.
pub record HoldsSteps {S : Type 0} (w : Setup S) (handed : List SheetLeg) (old new : List (Step S)) (ls : List Leg) : Type 0 where
  pub spelled : SpellsOut handed ls
  pub journey : Journey w ls
  pub room : length (steps_of w ls) ≤ length old
  pub steps : new ≡ laid (steps_of w ls) old

-- the legs handed out are a journey of n steps
pub record IsJourney {S : Type 0} (w : Setup S) (handed : List SheetLeg) (old new : List (Step S)) (n : ℕ) : Type 0 where
  pub legs : List Leg
  pub holds : HoldsSteps w handed old new legs
  pub count : n ≡ length (steps_of w legs)
  -- each step is where a journey ends
  pub parts : Each (Journey w) (parts_of legs)
  -- where the first k legs lead to, shown by the last of their steps: by that of all steps, where these are all legs
  pub leads : (k i : ℕ) → suc i ≡ length (steps_of w (take k legs)) → slice_get new i ≡ Some (step_at w.fare (last w (take k legs)))

-- the leg at a place does not lead on from where those before it lead to
pub record Strays {S : Type 0} (w : Setup S) (handed : List SheetLeg) (old new : List (Step S)) (place : ℕ) (why : Misstep) : Type 0 where
  pub before : List Leg
  pub holds : HoldsSteps w (take place handed) old new before
  pub leg : SheetLeg
  pub at : slice_get handed place ≡ Some leg
  pub stumbles : Stumbles w (last w before) leg why
  -- with this leg they are no journey
  pub none : (ls : List Leg) → SpellsOut (take (suc place) handed) ls → Journey w ls → ⊥

-- with the leg at a place those before it are a journey still, of more steps than there is room for
pub record Overflows {S : Type 0} (w : Setup S) (handed : List SheetLeg) (old new : List (Step S)) (place : ℕ) : Type 0 where
  pub before : List Leg
  pub holds : HoldsSteps w (take place handed) old new before
  pub within : place < length handed
  pub legs : List Leg
  pub spelled : SpellsOut (take (suc place) handed) legs
  pub journey : Journey w legs
  pub short : length old < length (steps_of w legs)

-- what an answer says of the legs handed out, and of the list of steps before and after
abbrev pub Follows : {S : Type 0} → Setup S → List SheetLeg → List (Step S) → Result ℕ Fault → List (Step S) → Type 0
Follows w handed old (Ok n) new = IsJourney w handed old new n
Follows w handed old (Err (DoesNotFollow place why)) new = Strays w handed old new place why
Follows w handed old (Err (TooFewSteps place)) new = Overflows w handed old new place

-- the legs handed out spell out a journey whose steps have room
pub record IsRetraceable {S : Type 0} (w : Setup S) (handed : List SheetLeg) (room : ℕ) : Type 0 where
  pub legs : List Leg
  pub spelled : SpellsOut handed legs
  pub journey : Journey w legs
  pub fits : length (steps_of w legs) ≤ room
