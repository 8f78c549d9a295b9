-- The laws of the ladder, and the range of its prices.
-- Assumes nothing.
use Rattle.std.proofs.Common.{ℕ, ◌+◌, ◌-◌, ◌*◌, ◌≤◌, min, max, arith}
use Rattle.std.proofs.lemmas.Bool.{leb-true, le-leb}
use Rattle.std.proofs.lemmas.Nat.{mul-le}
use Rattle.fares.specs.Limits.{top_rung, top_first, top_step}
use Rattle.fares.specs.Tariffs.{TariffLaws, Priced}
use Rattle.fares.specs.Ladders.{ladder_model}

-- a higher rung costs no less
rung_rises : (first step k l : ℕ) → k ≤ l → first + min k top_rung * step ≤ first + min l top_rung * step
rung_rises first step k l h =
    let m : min k top_rung ≤ min l top_rung = omega arith in
    omega (arith, mul-le (min k top_rung) step (min l top_rung) step m (omega arith))

pub ladder_priced : (first step : ℕ) → first ≤ top_first → step ≤ top_step → Priced (ladder_model first step)
ladder_priced first step f s k = omega (arith, mul-le (min k top_rung) step top_rung top_step (omega arith) s)

pub ladder_laws : (first step : ℕ) → TariffLaws (ladder_model first step)
ladder_laws first step = record {
  transitive = λ j k l p q. le-leb j l (omega (arith, leb-true));
  no_dearer = λ k l p. rung_rises first step k l (leb-true k l p);
  monotone = λ k l g h e there p a. le-leb _ _ (omega (arith, leb-true k l p, a.zones));
  never_falls = λ k g e there. rung_rises first step k (max k (min top_rung (g.zones - 1))) (omega arith);
}
