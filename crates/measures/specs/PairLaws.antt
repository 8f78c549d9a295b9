-- The laws of a pair of lawful measures, part by part.
-- Assumes nothing.
use Rattle.std.proofs.Common.{arith}
use Rattle.std.proofs.lemmas.Bool.{and_parts, and_from}
use Rattle.fares.specs.Measures.{MeasureModel, MeasureLaws}
use Rattle.measures.specs.Pairs.{pair_model}
use Rattle.measures.specs.SameWeights.{same_both}

pub pair_laws : {A B : Type 0} (m : MeasureModel A) (n : MeasureModel B) → MeasureLaws m → MeasureLaws n → MeasureLaws (pair_model m n)
pair_laws m n p q = record {
  associative = λ a b c. same_both (p.associative a.first b.first c.first) (q.associative a.second b.second c.second);
  neutral_left = λ a. same_both (p.neutral_left a.first) (q.neutral_left a.second);
  neutral_right = λ a. same_both (p.neutral_right a.first) (q.neutral_right a.second);
  reflexive = λ a. and_from _ _ (p.reflexive a.first) (q.reflexive a.second);
  transitive = λ a b c s t. and_from _ _
      (p.transitive a.first b.first c.first (and_parts _ _ s).0 (and_parts _ _ t).0)
      (q.transitive a.second b.second c.second (and_parts _ _ s).1 (and_parts _ _ t).1);
  neutral_least = λ a. and_from _ _ (p.neutral_least a.first) (q.neutral_least a.second);
  add_on_right = λ a b c s. and_from _ _
      (p.add_on_right a.first b.first c.first (and_parts _ _ s).0)
      (q.add_on_right a.second b.second c.second (and_parts _ _ s).1);
  add_on_left = λ a b c s. and_from _ _
      (p.add_on_left a.first b.first c.first (and_parts _ _ s).0)
      (q.add_on_left a.second b.second c.second (and_parts _ _ s).1);
  gauges_monotone = λ a b s.
      let t = and_parts (m.at_most a.first b.first) (n.at_most a.second b.second) s in
      let f = p.gauges_monotone a.first b.first t.0 in
      let g = q.gauges_monotone a.second b.second t.1 in
      record { metres = omega arith; stops = omega arith; zones = omega arith; level = omega arith };
}
