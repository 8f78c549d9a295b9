-- How late a journey can end, and how many legs it can have.
use Rattle.std.proofs.Common.{◌≡◌, ℕ, ◌+◌, ◌*◌, ◌<◌, ◌≤◌, Bool, true, false, List, [], ◌∷◌, length, ap, arith}
use Rattle.std.proofs.lemmas.Bool.{true≢false}
use Rattle.timetable.specs.Rule.{Limits}
use Rattle.journeys.specs.Journey.{Setup, Place, Leg, walk, ride, hop_in, path_in, after, end, start, last, LegsOk, Journey}
use Rattle.journeys.specs.Labels.{later}

-- what the limits of a question and the timetable rule give: nothing begins late, no footpath is long, and running hops
-- keep their limits
pub record Timely {S : Type 0} (w : Setup S) : Type 0 where
  pub departs : w.departure ≤ 172800
  pub short : (i : ℕ) → i < length w.paths → (path_in w i).seconds ≤ 3600
  pub kept : (i : ℕ) → (hop_in w i).runs ≡ true → Limits (hop_in w i)

-- a time that does not reach the largest one is not held there
pub later_is : (t s : ℕ) → t ≤ 172800 → s ≤ 3600 → t + s ≡ later t s
later_is t s a b = omega arith

-- 1 on foot
abbrev pub walked : Bool → ℕ
walked true = 1
walked false = 0

module _ {S : Type 0} (w : Setup S) (t : Timely w) where
  -- where a rider does not stand on foot, the time is that of the departure or of an arrival
  end_rested : (p : Place S) (ls : List Leg) → LegsOk w p ls → (p.foot ≡ false → p.time ≤ 172800) → (end w p ls).foot ≡ false → (end w p ls).time ≤ 172800
  end_rested p [] o h e = h e
  end_rested p (walk i ∷ ls) o h e = end_rested (after w p (walk i)) ls o.1 (λ z. absurd (true≢false z)) e
  end_rested p (ride a b ∷ ls) o h e = end_rested (after w p (ride a b)) ls o.1 (λ _. (t.kept b (o.0.running b o.0.forth (omega arith))).by_the_end) e

  pub rested_time : (ls : List Leg) → Journey w ls → (last w ls).foot ≡ false → (last w ls).time ≤ 172800
  rested_time ls o = end_rested (start w) ls o (λ _. t.departs)

  end_time : (p : Place S) (ls : List Leg) → LegsOk w p ls → (p.foot ≡ false → p.time ≤ 172800) → p.time ≤ 176400 → (end w p ls).time ≤ 176400
  end_time p [] o h e = e
  end_time p (walk i ∷ ls) o h e = end_time (after w p (walk i)) ls o.1 (λ z. absurd (true≢false z)) (omega (arith, h o.0.rested, t.short i o.0.is))
  end_time p (ride a b ∷ ls) o h e =
      let z = (t.kept b (o.0.running b o.0.forth (omega arith))).by_the_end in
      end_time (after w p (ride a b)) ls o.1 (λ _. z) (omega arith)

  pub journey_time : (ls : List Leg) → Journey w ls → (last w ls).time ≤ 176400
  journey_time ls o = end_time (start w) ls o (λ _. t.departs) (omega (arith, t.departs))

-- no two walks follow each other, so that there is at most one more of them than rides
module _ {S : Type 0} (w : Setup S) where
  end_legs : (p : Place S) (ls : List Leg) → LegsOk w p ls → length ls + (2 * p.rides + walked p.foot) ≤ 2 * (end w p ls).rides + walked (end w p ls).foot
  end_legs p [] o = omega arith
  end_legs p (walk i ∷ ls) o =
      let z : walked p.foot ≡ 0 = ap walked o.0.rested in
      omega (arith, end_legs (after w p (walk i)) ls o.1)
  end_legs p (ride a b ∷ ls) o = omega (arith, end_legs (after w p (ride a b)) ls o.1, few p.foot)
    where
      few : (b : Bool) → walked b ≤ 1
      few true = omega arith
      few false = omega arith

  pub journey_legs : (ls : List Leg) → Journey w ls → length ls ≤ 2 * (last w ls).rides + 1
  journey_legs ls o = omega (arith, end_legs (start w) ls o, few (last w ls).foot)
    where
      few : (b : Bool) → walked b ≤ 1
      few true = omega arith
      few false = omega arith
