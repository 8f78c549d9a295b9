-- Which tickets of the ferry's table cover which: all three are free, and each covers itself and those above it.
use Rattle.std.proofs.Common.{◌≡◌, ℕ, zero, suc, Bool, true, false, not, ◌&&◌, ◌||◌, eqb, leb, refl, ap, ◌∙◌, arith}
use mathlib.Core.Path.{fun_ext}
use lib.Dec.{eqb-zero-suc, eqb-suc-suc}
use Rattle.fares.specs.declared.tickets.Marked.{Marked}
use Rattle.fares.specs.Surcharges.{surcharge_model}
use Rattle.fares.specs.Tariffs.{TariffModel}
use Rattle.rule_table.specs.CoverTests.{each_below, some_below, reaches_in, reaches_ticket, steady, is_free, covers_ticket}
use Rattle.rule_table.specs.RuleTables.{table_model}
use Rattle.rule_table.specs.TableLaws.{covers_none}
use Rattle.ferry_cases.specs.FerryBoard.{ferry, ferry_rules, ferry_prices, ferry_starts, ferry_tariff}

or_false : (b : Bool) → (b || false) ≡ b
or_false true = refl
or_false false = refl

or_true : (b : Bool) → (b || true) ≡ true
or_true true = refl
or_true false = refl

-- Which tickets are reached.

reach_2 : (d l : ℕ) → reaches_in ferry_rules d 2 l ≡ eqb 2 l
unfolding reaches_in
reach_2 zero l = refl
reach_2 (suc d) l = or_false (eqb 2 l)

reach_1 : (d l : ℕ) → reaches_in ferry_rules (suc d) 1 l ≡ (eqb 1 l || eqb 2 l)
unfolding reaches_in
reach_1 d l = ap (λ b. eqb 1 l || b) (or_false (reaches_in ferry_rules d 2 l) ∙ reach_2 d l)

-- ticket 2 comes up twice: from ticket 0, and from ticket 1
twice : (a b c : Bool) → (a || ((b || c) || (c || false))) ≡ (a || (b || c))
twice true b c = refl
twice false true c = refl
twice false false true = refl
twice false false false = refl

unrolled : (d l : ℕ) → reaches_in ferry_rules (suc d) 0 l ≡ (eqb 0 l || (reaches_in ferry_rules d 1 l || (reaches_in ferry_rules d 2 l || false)))
unfolding reaches_in
unrolled d l = refl

reach_0 : (d l : ℕ) → reaches_in ferry_rules (suc (suc d)) 0 l ≡ (eqb 0 l || (eqb 1 l || eqb 2 l))
reach_0 d l = unrolled (suc d) l ∙ rw (reach_1 d l, reach_2 (suc d) l) (twice (eqb 0 l) (eqb 1 l) (eqb 2 l))

-- the tickets from the first on
abbrev pub along : ℕ → ℕ → Bool
along zero l = eqb 0 l || (eqb 1 l || eqb 2 l)
along (suc zero) l = eqb 1 l || eqb 2 l
along (suc (suc zero)) l = eqb 2 l
along (suc (suc (suc k))) l = false

reached_0 : (l : ℕ) → reaches_ticket ferry_rules 0 l ≡ along 0 l
unfolding reaches_ticket
reached_0 l = reach_0 30 l

reached_1 : (l : ℕ) → reaches_ticket ferry_rules 1 l ≡ along 1 l
unfolding reaches_ticket
reached_1 l = reach_1 31 l

reached_2 : (l : ℕ) → reaches_ticket ferry_rules 2 l ≡ along 2 l
unfolding reaches_ticket
reached_2 l = reach_2 32 l

not_0 : (n : ℕ) → eqb 0 (suc (suc (suc n))) ≡ false
not_0 n = eqb-zero-suc (suc (suc n))

not_1 : (n : ℕ) → eqb 1 (suc (suc (suc n))) ≡ false
not_1 n = eqb-suc-suc 0 (suc (suc n)) ∙ eqb-zero-suc (suc n)

not_2 : (n : ℕ) → eqb 2 (suc (suc (suc n))) ≡ false
not_2 n = eqb-suc-suc 1 (suc (suc n)) ∙ eqb-suc-suc 0 (suc n) ∙ eqb-zero-suc n

out_0 : (n : ℕ) → reaches_ticket ferry_rules 0 (suc (suc (suc n))) ≡ false
out_0 n = reached_0 (suc (suc (suc n))) ∙ rw (not_0 n, not_1 n, not_2 n) refl

out_1 : (n : ℕ) → reaches_ticket ferry_rules 1 (suc (suc (suc n))) ≡ false
out_1 n = reached_1 (suc (suc (suc n))) ∙ rw (not_1 n, not_2 n) refl

out_2 : (n : ℕ) → reaches_ticket ferry_rules 2 (suc (suc (suc n))) ≡ false
out_2 n = reached_2 (suc (suc (suc n))) ∙ not_2 n

-- None overtakes another.

steady_00 : steady ferry_rules 0 0 ≡ true
unfolding steady some_below
steady_00 = rw (reached_0 0)

steady_01 : steady ferry_rules 0 1 ≡ true
unfolding steady some_below
steady_01 = rw (reached_0 1)

steady_02 : steady ferry_rules 0 2 ≡ true
unfolding steady some_below
steady_02 = rw (reached_0 2)

steady_11 : steady ferry_rules 1 1 ≡ true
unfolding steady some_below
steady_11 = rw (reached_1 1)

steady_12 : steady ferry_rules 1 2 ≡ true
unfolding steady some_below
steady_12 = rw (reached_1 2)

steady_22 : steady ferry_rules 2 2 ≡ true
unfolding steady some_below
steady_22 = rw (reached_2 2)

each_true : (p : ℕ → Bool) → ((m : ℕ) → p m ≡ true) → (n : ℕ) → each_below p n ≡ true
unfolding each_below
each_true p h zero = refl
each_true p h (suc n) = rw (h n, each_true p h n)

unreached : (x s : Bool) → (not (x && false) || s) ≡ true
unreached true s = refl
unreached false s = refl

falling : (x y s : Bool) → (not (x && (y && false)) || s) ≡ true
falling true true s = refl
falling true false s = refl
falling false y s = refl

module _ (k : ℕ) (out : (m : ℕ) → reaches_ticket ferry_rules k (suc (suc (suc m))) ≡ false) where
  in_line : (m n : ℕ) → (not (reaches_ticket ferry_rules k m && (reaches_ticket ferry_rules k n && leb m n)) || steady ferry_rules m n) ≡ true
  in_line zero zero = rw steady_00 (or_true _)
  in_line zero (suc zero) = rw steady_01 (or_true _)
  in_line zero (suc (suc zero)) = rw steady_02 (or_true _)
  in_line zero (suc (suc (suc n))) = rw (out n) (unreached _ _)
  in_line (suc zero) zero = falling (reaches_ticket ferry_rules k 1) (reaches_ticket ferry_rules k 0) (steady ferry_rules 1 0)
  in_line (suc zero) (suc zero) = rw steady_11 (or_true _)
  in_line (suc zero) (suc (suc zero)) = rw steady_12 (or_true _)
  in_line (suc zero) (suc (suc (suc n))) = rw (out n) (unreached _ _)
  in_line (suc (suc zero)) zero = falling (reaches_ticket ferry_rules k 2) (reaches_ticket ferry_rules k 0) (steady ferry_rules 2 0)
  in_line (suc (suc zero)) (suc zero) = falling (reaches_ticket ferry_rules k 2) (reaches_ticket ferry_rules k 1) (steady ferry_rules 2 1)
  in_line (suc (suc zero)) (suc (suc zero)) = rw steady_22 (or_true _)
  in_line (suc (suc zero)) (suc (suc (suc n))) = rw (out n) (unreached _ _)
  in_line (suc (suc (suc m))) n = rw (out m)

  free : is_free ferry_rules k ≡ true
  unfolding is_free
  free = each_true _ (λ m. each_true _ (λ n. in_line m n) 32) 32

covered : (k l : ℕ) → covers_ticket 3 ferry_rules k l ≡ along k l
unfolding covers_ticket
covered zero l = rw (free 0 out_0) (reached_0 l)
covered (suc zero) l = rw (free 1 out_1) (reached_1 l)
covered (suc (suc zero)) l = rw (free 2 out_2) (reached_2 l)
covered (suc (suc (suc k))) l = covers_none 3 ferry_rules (suc (suc (suc k))) l (omega arith)

-- the ferry's tariff, with what covers what by a small function
abbrev pub small_tariff : TariffModel (Marked ℕ)
small_tariff = surcharge_model ferry 150 (record {
  start = (table_model ferry_prices ferry_rules ferry_starts).start;
  price = (table_model ferry_prices ferry_rules ferry_starts).price;
  next = (table_model ferry_prices ferry_rules ferry_starts).next;
  covers = along;
})

pub tariff_is : ferry_tariff ≡ small_tariff
unfolding ferry_tariff
tariff_is = ap (λ (c : ℕ → ℕ → Bool). surcharge_model ferry 150 (record {
  start = (table_model ferry_prices ferry_rules ferry_starts).start;
  price = (table_model ferry_prices ferry_rules ferry_starts).price;
  next = (table_model ferry_prices ferry_rules ferry_starts).next;
  covers = c;
})) (fun_ext (λ k. fun_ext (λ l. covered k l)))
