-- The ladder: its limits, how it opens, and what it means.
-- Assumes nothing; a number above 15 costs what ticket 15 costs.
use Rattle.std.specs.Prelude.{ℕ, ◌+◌, ◌-◌, ◌*◌, min, max, Bool, cond, ◌&&◌, List, Ok, Err, Result, nat_le}
use Rattle.fares.specs.Limits.{top_rung, top_first, top_step}
use Rattle.fares.specs.Refusals.{cause}
use Rattle.fares.specs.Tariffs.{TariffModel}
use Rattle.fares.specs.declared.refusal.Refusal.TheVariants.{Ladder}

-- the lowest ticket's price and the step are within their limits
abbrev pub ladder_within : ℕ → ℕ → Bool
ladder_within first step = nat_le first top_first && nat_le step top_step

-- a ladder opens with what it is given, or is refused
abbrev pub ladder_opened : ℕ → ℕ → Result (ℕ × ℕ) (ℕ × List ℕ)
ladder_opened first step = cond (ladder_within first step) (Ok (first, step)) (Err (cause Ladder))

-- ticket i costs first + i * step, covers every ticket from i on, and rises to one less than the zones touched
abbrev pub ladder_model : ℕ → ℕ → TariffModel ℕ
ladder_model first step = record {
  start = λ class. 0;
  price = λ k. first + min k top_rung * step;
  next = λ k g event. max k (min top_rung (g.zones - 1));
  covers = λ k l. nat_le k l;
}
