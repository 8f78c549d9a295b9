-- Members of a set of zones are the bits of its number.
use Rattle.std.proofs.Common.{◌≡◌, ℕ, zero, suc, ◌+◌, ◌/◌, ◌%◌, ◌^◌, ◌<◌, ◌≤◌, min, max, Bool, true, cond, ◌||◌, eqb, ltb, Decides, sym, refl, ap, ◌∙◌, ap₂, ⊎_elim, mod-eq_of_lt, pow-suc, arith}
use Rattle.std.specs.Int.{bit_at}
use Rattle.std.specs.Int.Count.{ones, ones_step, ones-le}
use Rattle.std.proofs.lemmas.Nat.{pow_below}
use Rattle.std.proofs.lemmas.Nat.Bits.{bit_at_lowest, bit_at-suc, bit_at-zero, bit_at-lt, bit_at_and, bit_at_or, bit_at-pow_same, bit_at-pow_other, bit_at_above, same_from_bits}
use Rattle.std.specs.Int.Bits.{bit_and}
use Rattle.std.proofs.lemmas.Bool.{eqb-true, eq-eqb, ne_eqb, lt-ltb, le-ltb, cases_lt, cases_eq, cond-true, cond-false}
use Rattle.measures.specs.Bounds.{zone_count}
use Rattle.measures.specs.ZoneMembers.{has_zone, count_below, ZonesAreSets}
use Rattle.measures.specs.ZoneSets.{set_of_zone, bit_of_zone, zones_model}
use Rattle.measures.specs.declared.weights.ZoneSet.{ZoneSet}
use Rattle.measures.specs.ZoneLaws.{union_whole}

-- ---- unions

either_digit : (p q : ℕ) → p < 2 → q < 2 → eqb (max p q) 1 ≡ (eqb p 1 || eqb q 1)
either_digit zero zero g h = refl
either_digit zero (suc zero) g h = refl
either_digit zero (suc (suc q)) g h = absurd (omega arith)
either_digit (suc zero) zero g h = refl
either_digit (suc zero) (suc zero) g h = refl
either_digit (suc zero) (suc (suc q)) g h = absurd (omega arith)
either_digit (suc (suc p)) q g h = absurd (omega arith)

union_has : (a b : ZoneSet) (z : ℕ) → has_zone (zones_model.add a b) z ≡ (has_zone a z || has_zone b z)
union_has a b z =
    ap (λ (n : ℕ). eqb (bit_at n z) 1) (union_whole a b)
    ∙ ap (λ (n : ℕ). eqb n 1) (bit_at_or a.members b.members z)
    ∙ either_digit (bit_at a.members z) (bit_at b.members z) (bit_at-lt a.members z) (bit_at-lt b.members z)

-- ---- inclusion

decides_included : (a b : ZoneSet) → Decides (zones_model.at_most a b) ((z : ℕ) → z < zone_count → has_zone a z ≡ true → has_zone b z ≡ true)
decides_included a b = (there, back)
  where
    there : eqb (bit_and a.members b.members) a.members ≡ true → (z : ℕ) → z < zone_count → has_zone a z ≡ true → has_zone b z ≡ true
    there t z h m =
        let same : bit_at (bit_and a.members b.members) z ≡ bit_at a.members z = ap (λ (n : ℕ). bit_at n z) (eqb-true _ _ t) in
        let one : bit_at a.members z ≡ 1 = eqb-true (bit_at a.members z) 1 m in
        eq-eqb (bit_at b.members z) 1 (omega (arith, bit_at_and a.members b.members z, bit_at-lt b.members z))

    -- where a bit of the one stands, that of the other does
    lesser : ((z : ℕ) → z < zone_count → has_zone a z ≡ true → has_zone b z ≡ true) → (z : ℕ) → min (bit_at a.members z) (bit_at b.members z) ≡ bit_at a.members z
    lesser f z = ⊎_elim {C = min (bit_at a.members z) (bit_at b.members z) ≡ bit_at a.members z} inside (λ h. omega (arith, bit_at_above a.members zone_count z a.fits h)) (cases_lt z zone_count)
      where
        inside : z < zone_count → min (bit_at a.members z) (bit_at b.members z) ≡ bit_at a.members z
        inside h =
            ⊎_elim {C = min (bit_at a.members z) (bit_at b.members z) ≡ bit_at a.members z}
            (λ (e : bit_at a.members z ≡ 1). omega (arith, eqb-true (bit_at b.members z) 1 (f z h (eq-eqb (bit_at a.members z) 1 e))))
            (λ ne. omega (arith, bit_at-lt a.members z)) (cases_eq (bit_at a.members z) 1)

    back : ((z : ℕ) → z < zone_count → has_zone a z ≡ true → has_zone b z ≡ true) → eqb (bit_and a.members b.members) a.members ≡ true
    back f = eq-eqb _ _ (same_from_bits _ _ (λ z. bit_at_and a.members b.members z ∙ lesser f z))

-- ---- the count

digit_counts : (n : ℕ) → n < 2 → n ≡ cond (eqb n 1) 1 0
digit_counts zero h = refl
digit_counts (suc zero) h = refl
digit_counts (suc (suc n)) h = absurd (omega arith)

-- the bits that stand are as many as the places at which one stands: the lowest first
ones_counted : (k n : ℕ) → n < 2 ^ k → ones n ≡ count_below (λ z. eqb (bit_at n z) 1) k
unfolding count_below
ones_counted zero n h = omega (arith, ones-le 0 n h)
ones_counted (suc k) n h =
    ones_step n
    ∙ ap₂ ◌+◌ (sym (bit_at_lowest n) ∙ digit_counts (bit_at n 0) (bit_at-lt n 0))
    (ones_counted k (n / 2) (omega (arith, pow-suc 2 k)) ∙ sym (ap (λ (p : ℕ → Bool). count_below p k) (λ i z. eqb (bit_at-suc n z i) 1)))

-- ---- one zone

one_bit : (y z : ℕ) → eqb (bit_at (2 ^ y) z) 1 ≡ eqb y z
one_bit y z =
    ⊎_elim {C = eqb (bit_at (2 ^ y) z) 1 ≡ eqb y z}
    (λ e. ap (λ (n : ℕ). eqb (bit_at (2 ^ n) z) 1) e ∙ ap (λ (n : ℕ). eqb n 1) (bit_at-pow_same z) ∙ sym (eq-eqb y z e))
    (λ ne. ap (λ (n : ℕ). eqb n 1) (bit_at-pow_other y z (λ e. ne (sym e))) ∙ sym (ne_eqb y z ne)) (cases_eq y z)

one_has : (y z : ℕ) → z < zone_count → has_zone (set_of_zone (bit_of_zone y)) z ≡ eqb y z
one_has y z h = ⊎_elim {C = has_zone (set_of_zone (bit_of_zone y)) z ≡ eqb y z} inside outside (cases_lt y zone_count)
  where
    inside : y < zone_count → has_zone (set_of_zone (bit_of_zone y)) z ≡ eqb y z
    inside i =
        ap (λ (n : ℕ). eqb (bit_at (n % 2 ^ zone_count) z) 1) (cond-true (ltb y zone_count) (2 ^ y) 0 (lt-ltb y zone_count i))
        ∙ ap (λ (n : ℕ). eqb (bit_at n z) 1) (mod-eq_of_lt (pow_below y zone_count i)) ∙ one_bit y z

    outside : zone_count ≤ y → has_zone (set_of_zone (bit_of_zone y)) z ≡ eqb y z
    outside i =
        ap (λ (n : ℕ). eqb (bit_at (n % 2 ^ zone_count) z) 1) (cond-false (ltb y zone_count) (2 ^ y) 0 (le-ltb y zone_count i))
        ∙ ap (λ (n : ℕ). eqb n 1) (bit_at-zero z) ∙ sym (ne_eqb y z (λ e. omega arith))

pub zones_are_sets : ZonesAreSets
zones_are_sets = record {
  none = λ z. ap (λ (n : ℕ). eqb n 1) (bit_at-zero z);
  arrival = λ metres level y z h. one_has y z h;
  origin = one_has;
  union = union_has;
  inclusion = decides_included;
  members = λ a.
      let few : ones a.members ≤ zone_count = ones-le zone_count a.members a.fits in
      let whole : (zones_model.gauges a).zones ≡ ones a.members = omega arith in
      whole ∙ ones_counted zone_count a.members a.fits;
}
