-- The laws of zones: sets under union, ordered by inclusion, counted.
-- Assumes nothing.
use Rattle.std.specs.Prelude.{◌≡◌, ℕ, ◌%◌, ◌^◌, ◌≤◌, bit_and, bit_or, count_ones, refl}
use Rattle.std.proofs.Common.{sym, ap, ap₂, subst₂, ◌∙◌, mod-eq_of_lt, arith}
use Rattle.std.specs.Int.Bits.{and_self, or_zero_r}
use Rattle.std.proofs.lemmas.Nat.{and_assoc, or_comm, or_lt}
use Rattle.std.proofs.lemmas.Bool.{eqb-true, eq-eqb}
use Rattle.fares.specs.Measures.{MeasureLaws}
use Rattle.measures.specs.Bounds.{zone_count}
use Rattle.measures.specs.ZoneSets.{zones_model}
use Rattle.measures.specs.declared.weights.ZoneSet.{ZoneSet}
use Rattle.measures.specs.SameWeights.{same_zones}
use Rattle.measures.specs.Digits.{or_assoc, or_keeps, ones_keeps}

-- a set loses no bit
whole : (a : ZoneSet) → a.members % 2 ^ zone_count ≡ a.members
whole a = mod-eq_of_lt a.fits

-- nor does a union
pub union_whole : (a b : ZoneSet) → bit_or a.members b.members % 2 ^ zone_count ≡ bit_or a.members b.members
union_whole a b = mod-eq_of_lt (or_lt zone_count a.members b.members a.fits b.fits)

pub zones_laws : MeasureLaws zones_model
zones_laws = record {
  associative = λ a b c. same_zones (
      ap (λ (x : ℕ). bit_or x c.members % 2 ^ zone_count) (union_whole a b)
      ∙ ap (λ (x : ℕ). x % 2 ^ zone_count) (or_assoc a.members b.members c.members)
      ∙ sym (ap (λ (x : ℕ). bit_or a.members x % 2 ^ zone_count) (union_whole b c))
      );
  neutral_left = λ a. same_zones (whole a);
  neutral_right = λ a. same_zones (ap (λ (x : ℕ). x % 2 ^ zone_count) (or_zero_r a.members) ∙ whole a);
  reflexive = λ a. eq-eqb _ _ (and_self a.members);
  transitive = λ a b c p q. eq-eqb _ _ (within a.members b.members c.members (eqb-true _ _ p) (eqb-true _ _ q));
  neutral_least = λ a. refl;
  add_on_right = λ a b c p. eq-eqb _ _ (
      subst₂ (λ (x y : ℕ). bit_and x y ≡ x) (sym (union_whole a c)) (sym (union_whole b c))
      (or_keeps a.members b.members c.members (eqb-true _ _ p))
      );
  add_on_left = λ a b c p. eq-eqb _ _ (
      subst₂ (λ (x y : ℕ). bit_and x y ≡ x) (sym (union_whole c a)) (sym (union_whole c b))
      (on_left a.members b.members c.members (eqb-true _ _ p))
      );
  gauges_monotone = λ a b p.
      let le : count_ones a.members ≤ count_ones b.members = ones_keeps a.members b.members (eqb-true _ _ p) in
      record { metres = omega arith; stops = omega arith; zones = omega arith; level = omega arith };
}
  where
    within : (a b c : ℕ) → bit_and a b ≡ a → bit_and b c ≡ b → bit_and a c ≡ a
    within a b c p q = ap (λ (x : ℕ). bit_and x c) (sym p) ∙ and_assoc c a b ∙ ap (bit_and a) q ∙ p

    on_left : (a b c : ℕ) → bit_and a b ≡ a → bit_and (bit_or c a) (bit_or c b) ≡ bit_or c a
    on_left a b c p = ap₂ bit_and (or_comm c a) (or_comm c b) ∙ or_keeps a b c p ∙ or_comm a c
