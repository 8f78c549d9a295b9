-- The laws of the level: the higher of two.
-- Assumes nothing.
use Rattle.std.specs.Prelude.{◌≡◌, ℕ, ◌≤◌, min, max}
use Rattle.std.proofs.Common.{sym, ap, ◌∙◌, arith}
use Rattle.std.proofs.lemmas.Bool.{leb-true, le-leb}
use Rattle.fares.specs.Measures.{MeasureLaws}
use Rattle.measures.specs.Bounds.{top_level}
use Rattle.measures.specs.Heights.{level_model}
use Rattle.measures.specs.declared.weights.Height.{Height}
use Rattle.measures.specs.SameWeights.{same_height}

-- the higher of two is a level again
higher_is_level : (a b : Height) → min (max a.value b.value) top_level ≡ max a.value b.value
higher_is_level a b = let h = a.fits in let i = b.fits in omega arith

max_regroup : (a b c : ℕ) → max (max a b) c ≡ max a (max b c)
max_regroup a b c = omega arith

pub level_laws : MeasureLaws level_model
level_laws = record {
  associative = λ a b c. same_height (
      ap (λ (x : ℕ). min (max x c.value) top_level) (higher_is_level a b)
      ∙ ap (λ (x : ℕ). min x top_level) (max_regroup a.value b.value c.value)
      ∙ sym (ap (λ (x : ℕ). min (max a.value x) top_level) (higher_is_level b c))
      );
  neutral_left = λ a. let h = a.fits in same_height (omega arith);
  neutral_right = λ a. let h = a.fits in same_height (omega arith);
  reflexive = λ a. le-leb a.value a.value (omega arith);
  transitive = λ a b c p q. le-leb a.value c.value (omega (arith, leb-true));
  neutral_least = λ a. le-leb 0 a.value (omega arith);
  add_on_right = λ a b c p. le-leb _ _ (omega (arith, leb-true));
  add_on_left = λ a b c p. le-leb _ _ (omega (arith, leb-true));
  gauges_monotone = λ a b p. let le : a.value ≤ b.value = leb-true _ _ p in record { metres = omega arith; stops = omega arith; zones = omega arith; level = omega arith };
}
