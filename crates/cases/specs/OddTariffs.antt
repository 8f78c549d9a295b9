-- A tariff that keeps the laws at the events that there are, and at event 200 breaks two of them.
-- Assumes nothing.
use Rattle.std.specs.Prelude.{◌≡◌, ℕ, ◌+◌, ◌*◌, ◌≤◌, min, max, Bool, true, false, cond, ◌==◌, nat_le}
use Rattle.std.proofs.Common.{eqb, refl, arith}
use Rattle.std.proofs.lemmas.Bool.{leb-true, le-leb, cond_both, eqb-true}
use Rattle.fares.specs.Limits.{top_event}
use Rattle.fares.specs.Tariffs.{TariffModel, TariffLaws, Priced}

-- the lowest ticket becomes the highest, and every other one the lowest
abbrev pub turned_over : ℕ → ℕ
turned_over k = cond (k == 0) 2 0

-- Tickets 0, 1 and 2 cost 200, 300 and 400, and a number above costs what ticket 2 costs. Event 2 leads to ticket 1, and
-- event 200, which no hop has that runs, turns the tickets over.
abbrev pub odd_model : TariffModel ℕ
odd_model = record {
  start = λ class. 0;
  price = λ k. 200 + min k 2 * 100;
  next = λ k g e. cond (e == 200) (turned_over k) (cond (e == 2) (max k 1) k);
  covers = λ k l. nat_le k l;
}

pub odd_priced : Priced odd_model
odd_priced k = omega arith

-- at an event that there is, the tickets are not turned over
next_listed : (k e : ℕ) → e ≤ top_event → cond (e == 200) (turned_over k) (cond (e == 2) (max k 1) k) ≡ cond (e == 2) (max k 1) k
next_listed k e there = cond_both (e == 200) (turned_over k) (cond (e == 2) (max k 1) k) (λ n. n ≡ cond (e == 2) (max k 1) k)
    (λ t. absurd (let is : e ≡ 200 = eqb-true e 200 t in omega arith)) (λ f. refl)

-- event 2 keeps the order of tickets
raised_keeps : (b : Bool) (k l : ℕ) → k ≤ l → cond b (max k 1) k ≤ cond b (max l 1) l
raised_keeps true k l h = omega arith
raised_keeps false k l h = h

-- and leads down from none
raised_up : (b : Bool) (k : ℕ) → k ≤ cond b (max k 1) k
raised_up true k = omega arith
raised_up false k = omega arith

pub odd_laws : TariffLaws odd_model
odd_laws = record {
  transitive = λ j k l p q. le-leb j l (omega (arith, leb-true j k p, leb-true k l q));
  no_dearer = λ k l p. omega (arith, leb-true k l p);
  monotone = λ k l g h e there p a. le-leb _ _
      (omega (arith, next_listed k e there, next_listed l e there, raised_keeps (e == 2) k l (leb-true k l p)));
  never_falls = λ k g e there. omega (arith, next_listed k e there, raised_up (e == 2) k);
}
