-- Which leg a leg handed out stands for, and why one does not follow, in plain facts.
-- Assumes nothing.
use Rattle.std.specs.Prelude.{◌≡◌, ◌≢◌, ℕ, ◌<◌, ◌≤◌, true, false, List, [], ◌∷◌, length, Ok, Err, Result}
use Rattle.journeys.specs.declared.leg.Leg.{Leg as SheetLeg}
use Rattle.journeys.specs.declared.leg.LegKind.{LegKind}
use Rattle.journeys.specs.declared.leg.LegKind.TheVariants.{Walk, Ride}
use Rattle.journeys.specs.Journey.{Setup, Place, Leg, walk, ride, hop_in, path_in, LegOk}
use Rattle.journeys.specs.Traces.{spelled}
use Rattle.retrace.specs.declared.misstep.Misstep.{Misstep}
use Rattle.retrace.specs.declared.misstep.Misstep.TheVariants.{TwoPaths, SecondWalk, NoPath, PathElsewhere, Backward, NoHop, HopElsewhere, Departed, Halted, OtherTrip}

-- what legs are handed out as: each with a row of its own
abbrev pub SpellsOut : List SheetLeg → List Leg → Type 0
SpellsOut [] [] = Unit {0}
SpellsOut [] (l ∷ ls) = ⊥
SpellsOut (s ∷ ss) [] = ⊥
SpellsOut (s ∷ ss) (l ∷ ls) = (s ≡ spelled s.row l) × SpellsOut ss ls

abbrev pub leg_by : LegKind → ℕ → ℕ → Leg
leg_by Walk first last = walk first
leg_by Ride first last = ride first last

-- the leg that one handed out stands for, if it is spelled as a leg
abbrev pub leg_meant : SheetLeg → Leg
leg_meant s = leg_by s.kind s.first s.last

-- a walk that names one footpath twice
abbrev pub IsWalk : SheetLeg → Type 0
IsWalk s = (s.kind ≡ Walk) × (s.first ≡ s.last)

-- a ride that does not go backwards
abbrev pub IsRide : SheetLeg → Type 0
IsRide s = (s.kind ≡ Ride) × (s.first ≤ s.last)

-- the hops from the hop a on run up to the hop j, which is left out, and are of one trip
abbrev pub RunsUpTo : {S : Type 0} → Setup S → ℕ → ℕ → Type 0
RunsUpTo w a j = (k : ℕ) → a ≤ k → k < j → ((hop_in w k).runs ≡ true) × ((hop_in w k).trip ≡ (hop_in w a).trip)

-- a ride over hops that there are, from the stop reached, not before the time reached
pub record CanBoard {S : Type 0} (w : Setup S) (p : Place S) (s : SheetLeg) : Type 0 where
  pub forth : IsRide s
  pub is : s.last < length w.hops
  pub here : (hop_in w s.first).from ≡ p.stop
  pub later : p.time ≤ (hop_in w s.first).departure

-- the hop j is one of the ride, and those of the ride before it run and are of one trip
pub record ComesTo {S : Type 0} (w : Setup S) (p : Place S) (s : SheetLeg) (j : ℕ) : Type 0 where
  pub boards : CanBoard w p s
  pub from : s.first ≤ j
  pub upto : j ≤ s.last
  pub before : RunsUpTo w s.first j

-- Why a leg handed out does not lead on from the place p. In each case what is tested before it holds.
abbrev pub Stumbles : {S : Type 0} → Setup S → Place S → SheetLeg → Misstep → Type 0
Stumbles w p s TwoPaths = (s.kind ≡ Walk) × (s.first ≢ s.last)
Stumbles w p s SecondWalk = IsWalk s × (p.foot ≡ true)
Stumbles w p s NoPath = IsWalk s × (p.foot ≡ false) × (length w.paths ≤ s.first)
Stumbles w p s PathElsewhere = IsWalk s × (p.foot ≡ false) × (s.first < length w.paths) × ((path_in w s.first).from ≢ p.stop)
Stumbles w p s Backward = (s.kind ≡ Ride) × (s.last < s.first)
Stumbles w p s NoHop = IsRide s × (length w.hops ≤ s.last)
Stumbles w p s HopElsewhere = IsRide s × (s.last < length w.hops) × ((hop_in w s.first).from ≢ p.stop)
Stumbles w p s Departed = IsRide s × (s.last < length w.hops) × ((hop_in w s.first).from ≡ p.stop) × ((hop_in w s.first).departure < p.time)
Stumbles w p s (Halted j) = ComesTo w p s j × ((hop_in w j).runs ≡ false)
Stumbles w p s (OtherTrip j) = ComesTo w p s j × ((hop_in w j).runs ≡ true) × ((hop_in w j).trip ≢ (hop_in w s.first).trip)

-- the leg handed out is spelled as a leg, which leads on from the place p
pub record LeadsOn {S : Type 0} (w : Setup S) (p : Place S) (s : SheetLeg) : Type 0 where
  pub spelt : s ≡ spelled s.row (leg_meant s)
  pub follows : LegOk w p (leg_meant s)

-- what is said of a leg handed out: it leads on, or why it does not
abbrev pub Checks : {S : Type 0} → Setup S → Place S → SheetLeg → Result (Unit {0}) Misstep → Type 0
Checks w p s (Ok done) = LeadsOn w p s
Checks w p s (Err why) = Stumbles w p s why
