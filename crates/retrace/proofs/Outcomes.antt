-- An answer to legs handed out says whether they are a journey whose steps have room.
use Rattle.std.proofs.Common.{◌≡◌, ℕ, suc, ◌≤◌, List, length, take, Ok, Err, Result, is_ok, sym, refl, subst, arith}
use Rattle.std.specs.Prelude.{Decides}
use Rattle.journeys.specs.declared.leg.Leg.{Leg as SheetLeg}
use Rattle.journeys.specs.Journey.{Setup, Leg, start}
use Rattle.retrace.specs.declared.fault.Fault.{Fault}
use Rattle.retrace.specs.declared.fault.Fault.TheVariants.{DoesNotFollow, TooFewSteps}
use Rattle.retrace.specs.declared.step.Step.{Step}
use Rattle.retrace.specs.Retracing.{Follows, IsRetraceable}
use Rattle.retrace.specs.Steps.{steps_of}
use Rattle.retrace.proofs.Spelling.{same_legs, spelled_take}
use Rattle.retrace.proofs.Parts.{legs_take, steps_fewer}

module _ {S : Type 0} (w : Setup S) (handed : List SheetLeg) (old new : List (Step S)) where
  pub decides : (r : Result ℕ Fault) → Follows w handed old r new → Decides (is_ok r) (IsRetraceable w handed (length old))
  decides (Ok n) a = (λ _. record { legs = a.legs; spelled = a.holds.spelled; journey = a.holds.journey; fits = a.holds.room }, λ _. refl)
  decides (Err (DoesNotFollow place why)) a = (
    λ e. cc,
    λ p. absurd (a.none (take (suc place) p.legs) (spelled_take (suc place) handed p.legs p.spelled) (legs_take w (start w) (suc place) p.legs p.journey)),
  )
  decides (Err (TooFewSteps place)) a = (
    λ e. cc,
    λ p.
        let same : a.legs ≡ take (suc place) p.legs = same_legs (take (suc place) handed) a.legs (take (suc place) p.legs) a.spelled (spelled_take (suc place) handed p.legs p.spelled) in
        let few = subst (λ (ls : List Leg). length (steps_of w ls) ≤ length (steps_of w p.legs)) (sym same) (steps_fewer w (suc place) p.legs) in
        absurd (omega (arith, few, a.short, p.fits)),
  )
