-- The fare of a journey is what all updates make of its start, and its weight is the sum of its start and of the hops ridden,
-- where nothing ridden weighs nothing.
use Rattle.std.proofs.Common.{◌≡◌, ℕ, zero, suc, ◌+◌, ◌-◌, List, [], ◌∷◌, ◌++◌, map, length, take, drop, Ok, Err, Result, sym, refl, ap, ◌∙◌}
use Rattle.std.specs.Prelude.{fold}
use Rattle.std.proofs.lemmas.List.{map-append, take_at}
use Rattle.timetable.specs.declared.hops.Hop.{Hop}
use Rattle.fares.specs.declared.fare_state.FareState.{FareState}
use Rattle.fares.specs.FareStates.{update_state}
use Rattle.fares.specs.Measures.{MeasureModel, MeasureLaws}
use Rattle.fares.specs.Tariffs.{TariffModel}
use Rattle.journeys.specs.declared.leg.Leg.{Leg as SheetLeg}
use Rattle.journeys.specs.declared.network.Stop.{Stop}
use Rattle.journeys.specs.Fare.{boarded}
use Rattle.journeys.specs.Journey.{Setup, Place, Leg, walk, ride, hop_in, through, after, end, start, last}
use Rattle.retrace.specs.declared.fault.Fault.{Fault}
use Rattle.retrace.specs.declared.step.Step.{Step}
use Rattle.retrace.specs.declared.travel.Travel.{Travel}
use Rattle.retrace.specs.Missteps.{SpellsOut}
use Rattle.retrace.specs.Promise.{Retraces, FaresAreUpdates, WeightsAreSums}
use Rattle.retrace.specs.Steps.{step_at, parts_of, steps_of}
use Rattle.retrace.specs.Travels.{setup_of}
use Rattle.retrace.specs.Weights.{Update, hops_from, hops_of_leg, hops_ridden, hop_weight, journey_weight, change_before, hop_update, updates_after, journey_fare}
use Rattle.retrace.proofs.Spelling.{same_legs}

fold_append : {A B : Type 0} (f : B → A → B) (b : B) (xs ys : List A) → fold f b (xs ++ ys) ≡ fold f (fold f b xs) ys
fold_append f b [] ys = refl
fold_append f b (x ∷ xs) ys = fold_append f (f b x) xs ys

-- the same of each part of a journey
each_same : {A X : Type 0} (f g : A → X) → ((x : A) → f x ≡ g x) → (xs : List A) → map f xs ≡ map g xs
each_same f g same [] = refl
each_same f g same (x ∷ xs) =
    let first = same x in
    let rest = each_same f g same xs in
    λ i. first i ∷ rest i

map_map : {A B C : Type 0} (g : B → C) (f : A → B) (xs : List A) → map g (map f xs) ≡ map (λ x. g (f x)) xs
map_map g f [] = refl
map_map g f (x ∷ xs) = ap (λ ys. g (f x) ∷ ys) (map_map g f xs)

module _ {T F M K W : Type 0} (hops : T → List Hop) (tariff : F → TariffModel K) (measure : M → MeasureModel W) (t : Travel T F M) where
  abbrev w : Setup (FareState K W)
  w = setup_of hops tariff measure t

  abbrev m : MeasureModel W
  m = measure t.measure.now

  abbrev stops : List Stop
  stops = t.network.stops.now

  abbrev Fare : Type 0
  Fare = FareState K W

  -- a fare, and then these updates
  abbrev and_updates : Fare → List (Update W) → Fare
  and_updates s us = fold (λ s u. update_state (tariff t.tariff.now) m u.weight u.event s) s us

  and_updates_more : (s : Fare) (us vs : List (Update W)) → and_updates s (us ++ vs) ≡ and_updates (and_updates s us) vs
  and_updates_more s us vs = fold_append (λ s u. update_state (tariff t.tariff.now) m u.weight u.event s) s us vs

  boarded_fare : (rides : ℕ) (s : Fare) → boarded w.fare rides s ≡ and_updates s (change_before m rides)
  boarded_fare zero s = refl
  boarded_fare (suc rides) s = refl

  through_fare : (a n : ℕ) (s : Fare) → through w a n s ≡ and_updates s (map (hop_update m stops) (hops_from w a n))
  through_fare a zero s = refl
  through_fare a (suc n) s =
      ap (w.fare.hop (hop_in w (a + n))) (through_fare a n s)
      ∙ sym (ap (and_updates s) (map-append (hop_update m stops) (hops_from w a n) (hop_in w (a + n) ∷ [])) ∙ and_updates_more s (map (hop_update m stops) (hops_from w a n)) (hop_update m stops (hop_in w (a + n)) ∷ []))

  end_fare : (p : Place Fare) (ls : List Leg) → (end w p ls).state ≡ and_updates p.state (updates_after m stops w p.rides ls)
  end_fare p [] = refl
  end_fare p (walk i ∷ ls) = end_fare (after w p (walk i)) ls
  end_fare p (ride a b ∷ ls) =
      let change = change_before m p.rides in
      let ridden = map (hop_update m stops) (hops_of_leg w (ride a b)) in
      end_fare (after w p (ride a b)) ls
      ∙ ap (λ s. and_updates s (updates_after m stops w (suc p.rides) ls))
      (through_fare a (suc (b - a)) (boarded w.fare p.rides p.state) ∙ ap (λ s. and_updates s ridden) (boarded_fare p.rides p.state) ∙ sym (and_updates_more p.state change ridden))
      ∙ sym (and_updates_more p.state (change ++ ridden) (updates_after m stops w (suc p.rides) ls))

  -- what the steps show that were written, is what the journey's parts come to
  shown : {X : Type 0} (show : Fare → X) (of : List Leg → X) → ((ls : List Leg) → show (last w ls).state ≡ of ls) → (handed : List SheetLeg) (old new : List (Step Fare)) (n : ℕ) → Retraces hops tariff measure t handed old (Ok n) new → (ls : List Leg) → SpellsOut handed ls → map (λ s. show s.state) (take n new) ≡ map of (parts_of ls)
  shown show of law handed old new n a ls o =
      ap (λ (xs : List (Step Fare)). map (λ s. show s.state) (take n xs)) a.holds.steps
      ∙ ap (map (λ (s : Step Fare). show s.state)) (take_at (steps_of w a.legs) (drop (length (steps_of w a.legs)) old) n (sym a.count))
      ∙ map_map (λ (s : Step Fare). show s.state) (λ part. step_at w.fare (last w part)) (parts_of a.legs)
      ∙ each_same (λ part. show (last w part).state) of law (parts_of a.legs)
      ∙ ap (λ (xs : List Leg). map of (parts_of xs)) (same_legs handed a.legs ls a.holds.spelled o)

  pub fares : (handed : List SheetLeg) (old new : List (Step Fare)) (r : Result ℕ Fault) → Retraces hops tariff measure t handed old r new → FaresAreUpdates hops tariff measure t handed r new
  fares handed old new (Ok n) a = shown (λ s. s) (journey_fare (tariff t.tariff.now) m stops w) (end_fare (start w)) handed old new n a
  fares handed old new (Err fault) a = tt

  module _ (laws : MeasureLaws m) where
    -- a weight, and then those of these hops
    abbrev and_hops : W → List Hop → W
    and_hops x hs = fold m.add x (map (hop_weight m stops) hs)

    and_hops_more : (x : W) (hs gs : List Hop) → and_hops x (hs ++ gs) ≡ and_hops (and_hops x hs) gs
    and_hops_more x hs gs = ap (fold m.add x) (map-append (hop_weight m stops) hs gs) ∙ fold_append m.add x (map (hop_weight m stops) hs) (map (hop_weight m stops) gs)

    boarded_weight : (rides : ℕ) (s : Fare) → (boarded w.fare rides s).weight ≡ s.weight
    boarded_weight zero s = refl
    boarded_weight (suc rides) s = laws.neutral_right s.weight

    through_weight : (a n : ℕ) (s : Fare) → (through w a n s).weight ≡ and_hops s.weight (hops_from w a n)
    through_weight a zero s = refl
    through_weight a (suc n) s =
        ap (λ x. m.add x (hop_weight m stops (hop_in w (a + n)))) (through_weight a n s)
        ∙ sym (and_hops_more s.weight (hops_from w a n) (hop_in w (a + n) ∷ []))

    leg_weight : (p : Place Fare) (l : Leg) → (after w p l).state.weight ≡ and_hops p.state.weight (hops_of_leg w l)
    leg_weight p (walk i) = refl
    leg_weight p (ride a b) =
        through_weight a (suc (b - a)) (boarded w.fare p.rides p.state)
        ∙ ap (λ x. and_hops x (hops_from w a (suc (b - a)))) (boarded_weight p.rides p.state)

    end_weight : (p : Place Fare) (ls : List Leg) → (end w p ls).state.weight ≡ and_hops p.state.weight (hops_ridden w ls)
    end_weight p [] = refl
    end_weight p (l ∷ ls) =
        end_weight (after w p l) ls
        ∙ ap (λ x. and_hops x (hops_ridden w ls)) (leg_weight p l)
        ∙ sym (and_hops_more p.state.weight (hops_of_leg w l) (hops_ridden w ls))

    pub weighs : (handed : List SheetLeg) (old new : List (Step Fare)) (r : Result ℕ Fault) → Retraces hops tariff measure t handed old r new → WeightsAreSums hops tariff measure t handed r new
    weighs handed old new (Ok n) a = shown (λ s. s.weight) (journey_weight m stops w) (end_weight (start w)) handed old new n a
    weighs handed old new (Err fault) a = tt
