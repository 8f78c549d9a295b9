-- Metres and stops: numbers that are added up and stay at the largest one.
-- Assumes nothing.
use Rattle.std.specs.Prelude.{ℕ, ◌+◌, min, nat_le, Bool, true, false, if◌then◌else◌}
use Rattle.std.proofs.Common.{arith}
use Rattle.fares.specs.Limits.{top_reading}
use Rattle.fares.specs.Measures.{MeasureModel}
use Rattle.measures.specs.Shown.{readings}
use Rattle.measures.specs.declared.weights.Amount.{Amount}

-- a number, held at the largest one
abbrev pub held_amount : ℕ → Amount
held_amount n = record { value = min n top_reading; fits = omega arith }

-- a hop weighs one, in gauge 1, or else its metres, in gauge 0
abbrev pub count_model : Bool → MeasureModel Amount
count_model each_hop = record {
  neutral = held_amount 0;
  add = λ a b. held_amount (a.value + b.value);
  at_most = λ a b. nat_le a.value b.value;
  gauges = λ a. (if each_hop then readings 0 a.value 0 0 else readings a.value 0 0 0);
  start = λ zone. held_amount 0;
  hop = λ metres level zone. held_amount (if each_hop then 1 else metres);
}

-- a hop weighs its metres; gauge 0
abbrev pub metres_model : MeasureModel Amount
metres_model = count_model false

-- a hop weighs one; gauge 1
abbrev pub stops_model : MeasureModel Amount
stops_model = count_model true
