-- Legs followed one by one: what holds after the first k of them, and what is answered where it ends.
use Rattle.std.proofs.Common.{◌≡◌, ℕ, suc, ◌+◌, ◌-◌, ◌<◌, ◌≤◌, List, [], ◌∷◌, ◌++◌, map, length, get_or, take, drop, Some, sym, refl, ap, ◌∙◌, subst, add-one, zero-add, arith, length-append}
use Rattle.std.specs.List.{slice_get}
use Rattle.std.proofs.lemmas.List.{map-append, take_more, take_all}
use Rattle.std.proofs.lemmas.Option.{slice_get-get_or}
use Rattle.sheet.specs.Outcome.{pasted, laid}
use Rattle.sheet.proofs.Pasting.{pasted_front, pasted_more}
use Rattle.journeys.specs.declared.leg.Leg.{Leg as SheetLeg}
use Rattle.journeys.specs.Journey.{Setup, Place, Leg, start, last, after, LegOk, Journey}
use Rattle.journeys.specs.Offers.{fee}
use Rattle.journeys.proofs.Traces.{end_push, ok_push}
use Rattle.retrace.specs.declared.misstep.Misstep.{Misstep}
use Rattle.retrace.specs.declared.step.Step.{Step}
use Rattle.retrace.specs.Missteps.{SpellsOut, leg_meant, LeadsOn, Stumbles}
use Rattle.retrace.specs.Retracing.{HoldsSteps, IsJourney, Strays, Overflows}
use Rattle.retrace.specs.Steps.{step_at, place_of, steps_of, leg_steps, IsInTime}
use Rattle.retrace.proofs.Spelling.{meant_of, spelled_push, spelled_last}
use Rattle.retrace.proofs.Parts.{rides_after, journey_last, leg_length, steps_push, steps_lead, parts_journeys}
use Rattle.retrace.proofs.Stumbling.{stumbles_not}

module _ {S : Type 0} (w : Setup S) (handed : List SheetLeg) (old : List (Step S)) where
  -- the legs that the first k handed out stand for
  abbrev pub legs_upto : ℕ → List Leg
  legs_upto k = map leg_meant (take k handed)

  -- the first k legs are followed: the rider is at the step `at`, and so many steps are written
  pub record FollowsSoFar (now : List (Step S)) (at : Step S) (used k : ℕ) : Type 0 where
    pub holds : HoldsSteps w (take k handed) old now (legs_upto k)
    pub here : at ≡ step_at w.fare (last w (legs_upto k))
    pub count : used ≡ length (steps_of w (legs_upto k))
    pub in_time : IsInTime at
    pub rides : at.rides ≤ k

  pub so_far_none : (at : Step S) → at ≡ step_at w.fare (start w) → IsInTime at → FollowsSoFar old at 0 0
  so_far_none at e timely = record {
    holds = record { spelled = tt; journey = tt; room = omega arith; steps = refl };
    here = e;
    count = refl;
    in_time = timely;
    rides = omega (arith, ap (λ s. s.rides) e);
  }

  pub priced : (now : List (Step S)) (at : Step S) (used k : ℕ) → FollowsSoFar now at used k → at.price ≡ fee w.fare at.rides at.state
  priced now at used k f = let P : Step S → Type 0 = λ s. s.price ≡ fee w.fare s.rides s.state in subst P (sym f.here) refl

  -- the leg at place k
  module _ (now : List (Step S)) (at : Step S) (used k : ℕ) (f : FollowsSoFar now at used k) (s d : SheetLeg) (inside : k < length handed) (read : s ≡ get_or handed k d) where
    upto : take (k + 1) handed ≡ take k handed ++ (s ∷ [])
    upto = take_more handed k d inside ∙ ap (λ (x : SheetLeg). take k handed ++ (x ∷ [])) (sym read)

    legs_on : legs_upto (k + 1) ≡ legs_upto k ++ (leg_meant s ∷ [])
    legs_on = ap (map leg_meant) upto ∙ map-append leg_meant (take k handed) (s ∷ [])

    stands : place_of at ≡ last w (legs_upto k)
    stands = ap place_of f.here

    at_place : slice_get handed k ≡ Some s
    at_place = slice_get-get_or handed k d inside ∙ ap Some (sym read)

    pub strays : (why : Misstep) → Stumbles w (place_of at) s why → Strays w handed old now k why
    strays why h =
        let there : Stumbles w (last w (legs_upto k)) s why = subst (λ (p : Place S). Stumbles w p s why) stands h in
        record {
          before = legs_upto k;
          holds = f.holds;
          leg = s;
          at = at_place;
          stumbles = there;
          none = λ ls spelled journey.
              let more : take (suc k) handed ≡ take k handed ++ (s ∷ []) = ap (λ (n : ℕ). take n handed) (sym (add-one k)) ∙ upto in
              let o : SpellsOut (take k handed ++ (s ∷ [])) ls = subst (λ (hs : List SheetLeg). SpellsOut hs ls) more spelled in
              let meant = meant_of (take k handed ++ (s ∷ [])) ls o in
              let split : ls ≡ legs_upto k ++ (leg_meant s ∷ []) = meant ∙ map-append leg_meant (take k handed) (s ∷ []) in
              stumbles_not w (last w (legs_upto k)) s why there
              (spelled_last (take k handed) s (subst (λ (xs : List Leg). SpellsOut (take k handed ++ (s ∷ [])) xs) meant o))
              (journey_last w (legs_upto k) (leg_meant s) (subst (λ (xs : List Leg). Journey w xs) split journey));
        }

    module _ (on : LeadsOn w (place_of at) s) where
      follows : LegOk w (last w (legs_upto k)) (leg_meant s)
      follows = subst (λ (p : Place S). LegOk w p (leg_meant s)) stands on.follows

      spelled_on : SpellsOut (take (k + 1) handed) (legs_upto (k + 1))
      spelled_on =
          let o = spelled_push (take k handed) (legs_upto k) s (leg_meant s) f.holds.spelled on.spelt in
          let p = subst (λ (xs : List Leg). SpellsOut (take k handed ++ (s ∷ [])) xs) (sym legs_on) o in
          subst (λ (hs : List SheetLeg). SpellsOut hs (legs_upto (k + 1))) (sym upto) p

      journey_on : Journey w (legs_upto (k + 1))
      journey_on = subst (λ (xs : List Leg). Journey w xs) (sym legs_on) (ok_push {S = S} w (start w) (legs_upto k) (leg_meant s) f.holds.journey follows)

      steps_on : steps_of w (legs_upto (k + 1)) ≡ steps_of w (legs_upto k) ++ leg_steps w (place_of at) (leg_meant s)
      steps_on = ap (steps_of w) legs_on ∙ steps_push w (legs_upto k) (leg_meant s) ∙ ap (λ (p : Place S). steps_of w (legs_upto k) ++ leg_steps w p (leg_meant s)) (sym stands)

      count_on : length (steps_of w (legs_upto (k + 1))) ≡ used + (s.last - s.first + 1)
      count_on = ap length steps_on ∙ length-append (steps_of w (legs_upto k)) (leg_steps w (place_of at) (leg_meant s)) ∙ omega (arith, f.count, leg_length w (place_of at) s on.spelt)

      pub overflows : length now ≡ length old → length now - used ≤ s.last - s.first → Overflows w handed old now k
      overflows same h = record {
        before = legs_upto k;
        holds = f.holds;
        within = inside;
        legs = legs_upto (k + 1);
        spelled = subst (λ (n : ℕ). SpellsOut (take n handed) (legs_upto (k + 1))) (add-one k) spelled_on;
        journey = journey_on;
        short = omega (arith, count_on, same, h, f.count, f.holds.room);
      }

      pub so_far_next : (next : Step S) (after_now : List (Step S)) → next ≡ step_at w.fare (after w (place_of at) (leg_meant s)) → IsInTime next → after_now ≡ pasted used (leg_steps w (place_of at) (leg_meant s)) now → used + (s.last - s.first + 1) ≤ length old → FollowsSoFar after_now next (used + (s.last - s.first + 1)) (k + 1)
      so_far_next next after_now is timely written room =
          let steps : after_now ≡ laid (steps_of w (legs_upto (k + 1))) old =
          pasted_more 0 used (steps_of w (legs_upto k)) (leg_steps w (place_of at) (leg_meant s)) old now after_now (f.count ∙ sym (zero-add (length (steps_of w (legs_upto k))))) (f.holds.steps ∙ sym (pasted_front (steps_of w (legs_upto k)) old)) written (omega (arith, leg_length w (place_of at) s on.spelt))
          ∙ pasted_front (steps_of w (legs_upto k) ++ leg_steps w (place_of at) (leg_meant s)) old
          ∙ ap (λ xs. laid xs old) (sym steps_on) in
          record {
            holds = record { spelled = spelled_on; journey = journey_on; room = omega (arith, count_on); steps = steps };
            here = is ∙ ap (λ (p : Place S). step_at w.fare (after w p (leg_meant s))) stands ∙ ap (step_at w.fare) (sym (end_push {S = S} w (start w) (legs_upto k) (leg_meant s))) ∙ ap (λ (xs : List Leg). step_at w.fare (last w xs)) (sym legs_on);
            count = sym count_on;
            in_time = timely;
            rides = omega (arith, ap (λ s. s.rides) is, rides_after w (place_of at) (leg_meant s), f.rides);
          }

  -- no leg is left
  pub is_journey : (now : List (Step S)) (at : Step S) (used k : ℕ) → FollowsSoFar now at used k → length handed ≤ k → IsJourney w handed old now used
  is_journey now at used k f h = record {
    legs = legs_upto k;
    holds = subst (λ (hs : List SheetLeg). HoldsSteps w hs old now (legs_upto k)) (take_all k handed h) f.holds;
    count = f.count;
    parts = parts_journeys w (legs_upto k) f.holds.journey;
    leads = λ n i e. ap (λ (xs : List (Step S)). slice_get xs i) f.holds.steps ∙ steps_lead w (legs_upto k) f.holds.journey (drop (length (steps_of w (legs_upto k))) old) n i e;
  }
