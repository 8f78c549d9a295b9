-- What a measure means, and the laws that every lawful one keeps.
-- Assumes nothing.
use Rattle.std.specs.Prelude.{◌≡◌, ℕ, Bool, true}
use Rattle.fares.specs.declared.gauges.Gauges.{Gauges}
use Rattle.fares.specs.Readings.{AtMost}

-- weights that are added, compared, and shown as gauges
pub record MeasureModel (W : Type 0) : Type 0 where
  -- of nothing ridden
  pub neutral : W
  pub add : W → W → W
  pub at_most : W → W → Bool
  pub gauges : W → Gauges
  -- from the zone of the start stop
  pub start : ℕ → W
  -- from a hop's metres, its level and the zone of its arrival stop
  pub hop : ℕ → ℕ → ℕ → W

-- weights are a monoid with an order that sums keep and gauges follow
pub record MeasureLaws {W : Type 0} (m : MeasureModel W) : Type 0 where
  pub associative : (a b c : W) → m.add (m.add a b) c ≡ m.add a (m.add b c)
  pub neutral_left : (a : W) → m.add m.neutral a ≡ a
  pub neutral_right : (a : W) → m.add a m.neutral ≡ a
  pub reflexive : (a : W) → m.at_most a a ≡ true
  pub transitive : (a b c : W) → m.at_most a b ≡ true → m.at_most b c ≡ true → m.at_most a c ≡ true
  pub neutral_least : (a : W) → m.at_most m.neutral a ≡ true
  pub add_on_right : (a b c : W) → m.at_most a b ≡ true → m.at_most (m.add a c) (m.add b c) ≡ true
  pub add_on_left : (a b c : W) → m.at_most a b ≡ true → m.at_most (m.add c a) (m.add c b) ≡ true
  pub gauges_monotone : (a b : W) → m.at_most a b ≡ true → AtMost (m.gauges a) (m.gauges b)
