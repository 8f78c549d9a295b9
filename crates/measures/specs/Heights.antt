-- The level: the highest that was ridden, out of 0 to 7.
-- Assumes nothing.
use Rattle.std.specs.Prelude.{ℕ, min, max, nat_le}
use Rattle.std.proofs.Common.{arith}
use Rattle.fares.specs.Measures.{MeasureModel}
use Rattle.measures.specs.Bounds.{top_level}
use Rattle.measures.specs.Shown.{readings}
use Rattle.measures.specs.declared.weights.Height.{Height}

-- a level, held at the highest one
abbrev pub held_level : ℕ → Height
held_level n = record { value = min n top_level; fits = omega arith }

-- a hop weighs its level; gauge 3
abbrev pub level_model : MeasureModel Height
level_model = record {
  neutral = held_level 0;
  add = λ a b. held_level (max a.value b.value);
  at_most = λ a b. nat_le a.value b.value;
  gauges = λ a. readings 0 0 0 a.value;
  start = λ zone. held_level 0;
  hop = λ metres level zone. held_level level;
}
