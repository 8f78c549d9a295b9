-- The laws of metres and of stops: a sum that stays at the largest number is still a monoid, and keeps the order.
-- Assumes nothing.
use Rattle.std.specs.Prelude.{◌≤◌, Bool, true, false}
use Rattle.std.proofs.Common.{arith}
use Rattle.std.proofs.lemmas.Bool.{leb-true, le-leb}
use Rattle.fares.specs.Measures.{MeasureLaws}
use Rattle.fares.specs.Readings.{AtMost}
use Rattle.measures.specs.Amounts.{count_model}
use Rattle.measures.specs.SameWeights.{same_amount}
use Rattle.measures.specs.declared.weights.Amount.{Amount}

gauges_follow : (each_hop : Bool) (a b : Amount) → a.value ≤ b.value → AtMost ((count_model each_hop).gauges a) ((count_model each_hop).gauges b)
gauges_follow true a b le = record { metres = omega arith; stops = omega arith; zones = omega arith; level = omega arith }
gauges_follow false a b le = record { metres = omega arith; stops = omega arith; zones = omega arith; level = omega arith }

pub count_laws : (each_hop : Bool) → MeasureLaws (count_model each_hop)
count_laws each_hop = record {
  associative = λ a b c. same_amount (omega arith);
  neutral_left = λ a. let h = a.fits in same_amount (omega arith);
  neutral_right = λ a. let h = a.fits in same_amount (omega arith);
  reflexive = λ a. le-leb a.value a.value (omega arith);
  transitive = λ a b c p q. le-leb a.value c.value (omega (arith, leb-true));
  neutral_least = λ a. le-leb 0 a.value (omega arith);
  add_on_right = λ a b c p. le-leb _ _ (omega (arith, leb-true));
  add_on_left = λ a b c p. le-leb _ _ (omega (arith, leb-true));
  gauges_monotone = λ a b p. gauges_follow each_hop a b (leb-true _ _ p);
}
