-- The steps of a journey: what is shown after each walk and after each hop ridden.
-- Assumes nothing.
use Rattle.std.specs.Prelude.{◌≡◌, ℕ, zero, suc, ◌+◌, ◌-◌, ◌^◌, ◌<◌, false, List, [], ◌∷◌, ◌++◌, map}
use Rattle.journeys.specs.Fare.{FareModel, boarded}
use Rattle.journeys.specs.Journey.{Setup, Place, Leg, walk, ride, hop_in, after, last}
use Rattle.journeys.specs.Offers.{fee}
use Rattle.retrace.specs.declared.step.Step.{Step}

-- what is shown of a place, with what a rider would pay who got off there: 0 without a ride
abbrev pub step_at : {S : Type 0} → FareModel S → Place S → Step S
step_at f p =
    record { stop = p.stop; time = p.time; rides = p.rides; is_on_foot = p.foot; state = p.state; price = fee f p.rides p.state }

-- the place that a step shows
abbrev pub place_of : {S : Type 0} → Step S → Place S
place_of s = record { stop = s.stop; time = s.time; rides = s.rides; foot = s.is_on_foot; state = s.state }

-- rides from the hop a on, of one hop, of two hops, and so on
abbrev pub rides_from : ℕ → ℕ → List Leg
rides_from a zero = []
rides_from a (suc n) = rides_from a n ++ (ride a (a + n) ∷ [])

-- a leg as far as each of its hops, and last the whole of it; a walk is one
abbrev pub stretches : Leg → List Leg
stretches (walk i) = walk i ∷ []
stretches (ride a b) = rides_from a (suc (b - a))

-- the parts of a journey that reach into the legs behind those before
abbrev pub parts_after : List Leg → List Leg → List (List Leg)
parts_after before [] = []
parts_after before (l ∷ ls) = map (λ x. before ++ (x ∷ [])) (stretches l) ++ parts_after (before ++ (l ∷ [])) ls

-- the parts of a journey from its beginning on: up to each walk, and up to each hop ridden
abbrev pub parts_of : List Leg → List (List Leg)
parts_of ls = parts_after [] ls

-- the steps of a journey: for each part of it, where that part leads to
abbrev pub steps_of : {S : Type 0} → Setup S → List Leg → List (Step S)
steps_of w ls = map (λ part. step_at w.fare (last w part)) (parts_of ls)

-- what is shown of where a leg leads to from the place p
abbrev pub step_after : {S : Type 0} → Setup S → Place S → Leg → Step S
step_after w p l = step_at w.fare (after w p l)

-- the steps of a leg from the place p: where each stretch of it leads to
abbrev pub leg_steps : {S : Type 0} → Setup S → Place S → Leg → List (Step S)
leg_steps w p l = map (step_after w p) (stretches l)

-- a rider who has boarded: with one ride more, and after a change of vehicle unless it is the first
abbrev pub step_aboard : {S : Type 0} → FareModel S → Step S → Step S
step_aboard f s =
    record { stop = s.stop; time = s.time; rides = suc s.rides; is_on_foot = false; state = boarded f s.rides s.state; price = s.price }

-- a rider who is aboard, one hop on
abbrev pub step_by_hop : {S : Type 0} → Setup S → ℕ → Step S → Step S
step_by_hop w i s = record {
  stop = (hop_in w i).to;
  time = (hop_in w i).arrival;
  rides = s.rides;
  is_on_foot = false;
  state = w.fare.hop (hop_in w i) s.state;
  price = w.fare.price (w.fare.hop (hop_in w i) s.state);
}

-- the price shown is what a rider would pay
abbrev pub IsPriced : {S : Type 0} → FareModel S → Step S → Type 0
IsPriced f s = s.price ≡ fee f s.rides s.state

-- times that a journey can come to: an arrival is below 2 ^ 32, and one walk may follow it
pub record IsInTime {S : Type 0} (s : Step S) : Type 0 where
  pub walked : s.time < 2 ^ 33
  pub rested : s.is_on_foot ≡ false → s.time < 2 ^ 32
