-- The laws of a surcharge over a lawful tariff, and the range of its prices.
-- Assumes nothing.
use Rattle.std.proofs.Common.{◌≡◌, ℕ, ◌+◌, ◌≤◌, min, Bool, true, false, cond, not, ◌||◌, eqb, refl, arith}
use Rattle.std.proofs.lemmas.Bool.{and_parts, and_from}
use Rattle.fares.specs.Limits.{top_price}
use Rattle.fares.specs.Tariffs.{TariffModel, TariffLaws, Priced}
use Rattle.fares.specs.Surcharges.{surcharge_model}

module _ {K : Type 0} (event extra : ℕ) (t : TariffModel K) (priced : Priced t) where
  pub surcharge_priced : Priced (surcharge_model event extra t)
  surcharge_priced k = kept k.marked (t.price k.below) (priced k.below)
    where
      kept : (m : Bool) (p : ℕ) → p ≤ top_price → cond m (min top_price (p + extra)) p ≤ top_price
      kept true p h = omega arith
      kept false p h = h

  -- a mark that is not set, or set on both, costs no more over a ticket that costs no more
  priced_up : (m n : Bool) (p q : ℕ) → (not m || n) ≡ true → p ≤ q → q ≤ top_price
      → cond m (min top_price (p + extra)) p ≤ cond n (min top_price (q + extra)) q
  priced_up true true p q s h b = omega arith
  priced_up true false p q s h b = grind arith
  priced_up false true p q s h b = omega arith
  priced_up false false p q s h b = h

  marks_chain : (a b c : Bool) → (not a || b) ≡ true → (not b || c) ≡ true → (not a || c) ≡ true
  marks_chain false b c p q = refl
  marks_chain true true c p q = q
  marks_chain true false c p q = grind arith

  marks_on : (a b s : Bool) → (not a || b) ≡ true → (not (a || s) || (b || s)) ≡ true
  marks_on false b true p = elim b as (λ v. (v || true) ≡ true) [ true ↦ refl | false ↦ refl ]
  marks_on false b false p = refl
  marks_on true true s p = refl
  marks_on true false s p = grind arith

  mark_stays : (a s : Bool) → (not a || (a || s)) ≡ true
  mark_stays true s = refl
  mark_stays false s = refl

  pub surcharge_laws : TariffLaws t → TariffLaws (surcharge_model event extra t)
  surcharge_laws laws = record {
    transitive = λ j k l p q.
        let a = and_parts (t.covers j.below k.below) (not j.marked || k.marked) p in
        let b = and_parts (t.covers k.below l.below) (not k.marked || l.marked) q in
        and_from _ _ (laws.transitive j.below k.below l.below a.0 b.0) (marks_chain j.marked k.marked l.marked a.1 b.1);
    no_dearer = λ k l p.
        let a = and_parts (t.covers k.below l.below) (not k.marked || l.marked) p in
        priced_up k.marked l.marked (t.price k.below) (t.price l.below) a.1 (laws.no_dearer k.below l.below a.0) (priced l.below);
    monotone = λ k l g h e there p le.
        let a = and_parts (t.covers k.below l.below) (not k.marked || l.marked) p in
        and_from _ _ (laws.monotone k.below l.below g h e there a.0 le) (marks_on k.marked l.marked (eqb e event) a.1);
    never_falls = λ k g e there.
        priced_up k.marked (k.marked || eqb e event) (t.price k.below) (t.price (t.next k.below g e))
        (mark_stays k.marked (eqb e event)) (laws.never_falls k.below g e there) (priced (t.next k.below g e));
  }
