-- What a journey weighs, and the fare at its end: the start, and then what was ridden, in order.
-- Assumes nothing.
use Rattle.std.specs.Prelude.{ℕ, zero, suc, ◌+◌, ◌-◌, List, [], ◌∷◌, ◌++◌, map, fold}
use Rattle.timetable.specs.declared.hops.Hop.{Hop}
use Rattle.fares.specs.declared.fare_state.FareState.{FareState}
use Rattle.fares.specs.FareStates.{start_state, update_state}
use Rattle.fares.specs.Limits.{change_event}
use Rattle.fares.specs.Measures.{MeasureModel}
use Rattle.fares.specs.Tariffs.{TariffModel}
use Rattle.journeys.specs.declared.network.Stop.{Stop}
use Rattle.journeys.specs.Journey.{Setup, Leg, walk, ride, hop_in}
use Rattle.journeys.specs.NetworkFare.{stop_numbered}

-- so many hops from the hop a on
abbrev pub hops_from : {S : Type 0} → Setup S → ℕ → ℕ → List Hop
hops_from w a zero = []
hops_from w a (suc n) = hops_from w a n ++ (hop_in w (a + n) ∷ [])

-- the hops ridden with a leg
abbrev pub hops_of_leg : {S : Type 0} → Setup S → Leg → List Hop
hops_of_leg w (walk i) = []
hops_of_leg w (ride a b) = hops_from w a (suc (b - a))

-- all hops ridden, in order
abbrev pub hops_ridden : {S : Type 0} → Setup S → List Leg → List Hop
hops_ridden w [] = []
hops_ridden w (l ∷ ls) = hops_of_leg w l ++ hops_ridden w ls

-- what a hop weighs: by its metres, its level and the zone of the stop where it arrives
abbrev pub hop_weight : {W : Type 0} → MeasureModel W → List Stop → Hop → W
hop_weight m stops h = m.hop h.metres h.level (stop_numbered stops h.to).zone

-- the weight of a journey: that of its start, by the zone of the origin, and then those of all hops ridden
abbrev pub journey_weight : {S W : Type 0} → MeasureModel W → List Stop → Setup S → List Leg → W
journey_weight m stops w ls =
    fold m.add (m.start (stop_numbered stops w.origin).zone) (map (hop_weight m stops) (hops_ridden w ls))

-- what a fare is updated with: a weight to add, and an event at which the next ticket is taken
pub record Update (W : Type 0) : Type 0 where
  pub weight : W
  pub event : ℕ

-- a change of vehicle before a ride, unless it is the first; nothing is ridden then
abbrev pub change_before : {W : Type 0} → MeasureModel W → ℕ → List (Update W)
change_before m zero = []
change_before m (suc rides) = record { weight = m.neutral; event = change_event } ∷ []

-- a hop ridden: its weight and its event
abbrev pub hop_update : {W : Type 0} → MeasureModel W → List Stop → Hop → Update W
hop_update m stops h = record { weight = hop_weight m stops h; event = h.event }

-- the updates of legs before which there were so many rides: each change of vehicle and each hop ridden, in order
abbrev pub updates_after : {S W : Type 0} → MeasureModel W → List Stop → Setup S → ℕ → List Leg → List (Update W)
updates_after m stops w rides [] = []
updates_after m stops w rides (walk i ∷ ls) = updates_after m stops w rides ls
updates_after m stops w rides (ride a b ∷ ls) =
    (change_before m rides ++ map (hop_update m stops) (hops_of_leg w (ride a b))) ++ updates_after m stops w (suc rides) ls

-- the fare at the end of a journey: that of the origin, by its class and its zone, and then all updates
abbrev pub journey_fare : {S K W : Type 0} → TariffModel K → MeasureModel W → List Stop → Setup S → List Leg → FareState K W
journey_fare t m stops w ls =
    fold (λ s u. update_state t m u.weight u.event s)
    (start_state t m (stop_numbered stops w.origin).class (stop_numbered stops w.origin).zone)
    (updates_after m stops w 0 ls)
