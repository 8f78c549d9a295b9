-- Any two measures, part by part; each gauge shows the greater of the two.
-- Assumes nothing.
use Rattle.std.specs.Prelude.{◌&&◌}
use Rattle.fares.specs.Measures.{MeasureModel}
use Rattle.measures.specs.Shown.{greater_readings}
use Rattle.measures.specs.declared.weights.Both.{Both}

-- a weight of each
abbrev pub pair_model : {A B : Type 0} → MeasureModel A → MeasureModel B → MeasureModel (Both A B)
pair_model m n = record {
  neutral = record { first = m.neutral; second = n.neutral };
  add = λ a b. record { first = m.add a.first b.first; second = n.add a.second b.second };
  at_most = λ a b. m.at_most a.first b.first && n.at_most a.second b.second;
  gauges = λ a. greater_readings (m.gauges a.first) (n.gauges a.second);
  start = λ zone. record { first = m.start zone; second = n.start zone };
  hop = λ metres level zone. record { first = m.hop metres level zone; second = n.hop metres level zone };
}
