-- How a walk is written, and how a ride goes on hop by hop, and what is written meanwhile.
use Rattle.std.proofs.Common.{◌≡◌, ℕ, zero, suc, ◌+◌, ◌-◌, ◌<◌, ◌≤◌, false, List, [], ◌∷◌, map, length, set, sym, refl, ap, ◌∙◌, add-one, arith, length-append}
use lib.ListN.{length-map}
use Rattle.std.proofs.lemmas.List.{map-append}
use Rattle.sheet.specs.Outcome.{pasted}
use Rattle.timetable.specs.declared.hops.Hop.{Hop}
use Rattle.sheet.proofs.Pasting.{pasted_none, pasted_one, pasted_more}
use Rattle.journeys.specs.declared.leg.Leg.{Leg as SheetLeg}
use Rattle.journeys.specs.declared.leg.LegKind.TheVariants.{Walk}
use Rattle.journeys.specs.Fare.{boarded}
use Rattle.journeys.specs.Journey.{Setup, Place, Leg, walk, ride, hop_in, through, after}
use Rattle.retrace.specs.declared.step.Step.{Step}
use Rattle.retrace.specs.Missteps.{leg_by, leg_meant}
use Rattle.retrace.specs.Steps.{step_at, place_of, rides_from, leg_steps, step_aboard, step_by_hop, IsInTime}

pub length_rides : (a n : ℕ) → length (rides_from a n) ≡ n
length_rides a zero = refl
length_rides a (suc n) = length-append (rides_from a n) (ride a (a + n) ∷ []) ∙ ap (λ k. k + 1) (length_rides a n) ∙ add-one n

-- a walk is one step
pub walk_written : {S : Type 0} (w : Setup S) (p : Place S) (s : SheetLeg) (used : ℕ) (steps : List (Step S)) (step : Step S) → s.kind ≡ Walk → step ≡ step_at w.fare (after w p (walk s.first)) → used < length steps → set steps used step ≡ pasted used (leg_steps w p (leg_meant s)) steps
walk_written w p s used steps step kind e room =
    ap (set steps used) e
    ∙ pasted_one used (step_at w.fare (after w p (walk s.first))) steps room
    ∙ ap (λ k. pasted used (leg_steps w p (leg_by k s.first s.last)) steps) (sym kind)

module _ {S : Type 0} (w : Setup S) (at : Step S) (a : ℕ) where
  abbrev board_state : S
  board_state = boarded w.fare at.rides at.state

  -- where the ride up to a hop leads to
  abbrev pub there : Leg → Step S
  there l = step_at w.fare (after w (place_of at) l)

  abbrev arrived : ℕ → S → ℕ → Step S
  arrived n x rides = record { stop = (hop_in w (a + n)).to; time = (hop_in w (a + n)).arrival; rides = rides; is_on_foot = false; state = x; price = w.fare.price x }

  pub step_by_hop_is : (n : ℕ) (s : Step S) → s.state ≡ through w a n board_state → s.rides ≡ suc at.rides → step_by_hop w (a + n) s ≡ there (ride a (a + n))
  step_by_hop_is n s state rides =
      let e : n ≡ a + n - a = omega arith in
      ap (λ x. arrived n x s.rides) (ap (w.fare.hop (hop_in w (a + n))) state ∙ ap (λ k. w.fare.hop (hop_in w (a + k)) (through w a k board_state)) e)
      ∙ ap (arrived n (through w a (suc (a + n - a)) board_state)) rides

  -- after n hops of the ride: the step that was written last, and what the list of steps holds
  pub record RidesOn (used : ℕ) (old now : List (Step S)) (step : Step S) (n : ℕ) : Type 0 where
    pub state : step.state ≡ through w a n board_state
    pub rides : step.rides ≡ suc at.rides
    pub last : (m : ℕ) → n ≡ suc m → (step ≡ there (ride a (a + m))) × IsInTime step
    pub steps : now ≡ pasted used (map there (rides_from a n)) old

  module _ (used : ℕ) (old : List (Step S)) where
    pub ridden_none : (s : Step S) → s ≡ step_aboard w.fare at → RidesOn used old old s 0
    ridden_none s e = record {
      state = ap (λ x. x.state) e;
      rides = ap (λ x. x.rides) e;
      last = λ m z. absurd (omega arith);
      steps = pasted_none used old;
    }

    pub ridden_next : (now later : List (Step S)) (step next : Step S) (n : ℕ) → RidesOn used old now step n → next ≡ step_by_hop w (a + n) step → IsInTime next → later ≡ set now (used + n) next → length now ≡ length old → used + n < length old → RidesOn used old later next (n + 1)
    ridden_next now later step next n r e timely written same room =
        let is : next ≡ there (ride a (a + n)) = e ∙ step_by_hop_is n step r.state r.rides in
        let xs = map there (rides_from a n) in
        let long : length xs ≡ n = length-map (rides_from a n) there ∙ length_rides a n in
        rw (add-one n) (record {
          state = ap (λ x. x.state) e ∙ ap (w.fare.hop (hop_in w (a + n))) r.state;
          rides = ap (λ x. x.rides) e ∙ r.rides;
          last = λ m z. (let same_place : n ≡ m = omega arith in is ∙ ap (λ k. there (ride a (a + k))) same_place, timely);
          steps =
              written
              ∙ ap (set now (used + n)) is
              ∙ pasted_more used (used + n) xs (there (ride a (a + n)) ∷ []) old now (set now (used + n) (there (ride a (a + n)))) (omega arith) r.steps (pasted_one (used + n) (there (ride a (a + n))) now (omega arith)) (omega arith)
              ∙ ap (λ l. pasted used l old) (sym (map-append there (rides_from a n) (ride a (a + n) ∷ [])));
        })

    -- the whole ride
    pub ridden_all : (now : List (Step S)) (step : Step S) (b n : ℕ) → a ≤ b → n ≡ b - a + 1 → RidesOn used old now step n → (step ≡ there (ride a b)) × IsInTime step × (now ≡ pasted used (map there (rides_from a (suc (b - a)))) old)
    ridden_all now step b n forth count r =
        let more : n ≡ suc (b - a) = omega arith in
        let to : a + (b - a) ≡ b = omega arith in
        let end = r.last (b - a) more in
        (end.0 ∙ ap (λ k. there (ride a k)) to, end.1, r.steps ∙ ap (λ k. pasted used (map there (rides_from a k)) old) more)

-- one hop on, from what its calls have answered
pub hop_shown : {S : Type 0} (w : Setup S) (i : ℕ) (s : Step S) (h : Hop) (x : S) (time price : ℕ) → h ≡ hop_in w i → x ≡ w.fare.hop h s.state → time ≡ h.arrival → price ≡ w.fare.price x → ◌≡◌ {A = Step S} (record { stop = h.to; time = time; rides = s.rides; is_on_foot = false; state = x; price = price }) (step_by_hop w i s)
hop_shown w i s h x time price there rode then costs =
    (λ j. record { stop = h.to; time = then j; rides = s.rides; is_on_foot = false; state = x; price = costs j })
    ∙ ap (λ y. record { stop = h.to; time = h.arrival; rides = s.rides; is_on_foot = false; state = y; price = w.fare.price y }) rode
    ∙ ap (λ k. record { stop = k.to; time = k.arrival; rides = s.rides; is_on_foot = false; state = w.fare.hop k s.state; price = w.fare.price (w.fare.hop k s.state) }) there
