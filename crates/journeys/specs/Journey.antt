-- Journeys: where a rider is, one leg, and a journey as a list of legs.
-- Assumes nothing.
use Rattle.std.specs.Prelude.{◌≡◌, ℕ, zero, suc, ◌+◌, ◌-◌, ◌<◌, ◌≤◌, Bool, true, false, List, [], ◌∷◌, length, slice_index_or}
use Rattle.timetable.specs.declared.hops.Hop.{Hop}
use Rattle.journeys.specs.declared.network.Footpath.{Footpath}
use Rattle.journeys.specs.Fare.{FareModel, boarded}
use Rattle.journeys.specs.Scan.{no_hop}

-- All that journeys rest on: fares, hops, footpaths, and from where and when they start.
pub record Setup (S : Type 0) : Type 0 where
  pub fare : FareModel S
  pub hops : List Hop
  pub paths : List Footpath
  pub origin : ℕ
  pub departure : ℕ

-- where a rider has come to
pub record Place (S : Type 0) : Type 0 where
  pub stop : ℕ
  pub time : ℕ
  pub rides : ℕ
  -- came here on foot
  pub foot : Bool
  pub state : S

-- a leg: the footpath at a place of its list, or the hops from one place to another
pub data Leg : Type 0 where
  walk : ℕ → Leg
  ride : ℕ → ℕ → Leg

-- what stands for a footpath past the end, which is never walked
abbrev pub no_path : Footpath
no_path = record { from = 0; to = 0; seconds = 0 }

abbrev pub hop_in : {S : Type 0} → Setup S → ℕ → Hop
hop_in w i = slice_index_or w.hops i no_hop

abbrev pub path_in : {S : Type 0} → Setup S → ℕ → Footpath
path_in w i = slice_index_or w.paths i no_path

-- the state after n hops from the hop a on
abbrev pub through : {S : Type 0} → Setup S → ℕ → ℕ → S → S
through w a zero s = s
through w a (suc n) s = w.fare.hop (hop_in w (a + n)) (through w a n s)

-- where a leg leads to: a walk leaves the fare as it is
abbrev pub after : {S : Type 0} → Setup S → Place S → Leg → Place S
after w p (walk i) = record { stop = (path_in w i).to; time = p.time + (path_in w i).seconds; rides = p.rides; foot = true; state = p.state }
after w p (ride a b) = record { stop = (hop_in w b).to; time = (hop_in w b).arrival; rides = suc p.rides; foot = false; state = through w a (suc (b - a)) (boarded w.fare p.rides p.state) }

-- a walk is one footpath, from the stop reached, and not after a walk
pub record WalkOk {S : Type 0} (w : Setup S) (p : Place S) (i : ℕ) : Type 0 where
  pub rested : p.foot ≡ false
  pub is : i < length w.paths
  pub here : (path_in w i).from ≡ p.stop

-- a ride is a run of neighbouring running hops of one trip, from the stop reached, not before the time reached
pub record RideOk {S : Type 0} (w : Setup S) (p : Place S) (a b : ℕ) : Type 0 where
  pub forth : a ≤ b
  pub is : b < length w.hops
  pub here : (hop_in w a).from ≡ p.stop
  pub later : p.time ≤ (hop_in w a).departure
  pub running : (j : ℕ) → a ≤ j → j ≤ b → (hop_in w j).runs ≡ true
  pub one_trip : (j : ℕ) → a ≤ j → j ≤ b → (hop_in w j).trip ≡ (hop_in w a).trip

abbrev pub LegOk : {S : Type 0} → Setup S → Place S → Leg → Type 0
LegOk w p (walk i) = WalkOk w p i
LegOk w p (ride a b) = RideOk w p a b

-- the legs lead on from the place p
abbrev pub LegsOk : {S : Type 0} → Setup S → Place S → List Leg → Type 0
LegsOk w p [] = Unit {0}
LegsOk w p (l ∷ ls) = LegOk w p l × LegsOk w (after w p l) ls

-- where the legs lead to from the place p
abbrev pub end : {S : Type 0} → Setup S → Place S → List Leg → Place S
end w p [] = p
end w p (l ∷ ls) = end w (after w p l) ls

-- at the origin: not on foot, with the fare that starts there
abbrev pub start : {S : Type 0} → Setup S → Place S
start w = record { stop = w.origin; time = w.departure; rides = 0; foot = false; state = w.fare.start w.origin }

-- legs that lead on from the origin
abbrev pub Journey : {S : Type 0} → Setup S → List Leg → Type 0
Journey w ls = LegsOk w (start w) ls

-- where a journey has come to
abbrev pub last : {S : Type 0} → Setup S → List Leg → Place S
last w ls = end w (start w) ls
