-- What a tariff means, and the laws that every lawful one keeps.
-- Assumes nothing; covering need not be reflexive: a ticket may cover none, not even itself.
use Rattle.std.specs.Prelude.{◌≡◌, ℕ, ◌≤◌, Bool, true}
use Rattle.fares.specs.Limits.{top_event, top_price}
use Rattle.fares.specs.declared.gauges.Gauges.{Gauges}
use Rattle.fares.specs.Readings.{AtMost}

-- tickets, what they cost, which comes next, and which covers which
pub record TariffModel (K : Type 0) : Type 0 where
  -- from a stop class
  pub start : ℕ → K
  -- in cents
  pub price : K → ℕ
  -- from a ticket, the gauges and an event
  pub next : K → Gauges → ℕ → K
  pub covers : K → K → Bool

-- the range of prices, which every tariff keeps, lawful or not
abbrev pub Priced : {K : Type 0} → TariffModel K → Type 0
Priced {K} t = (k : K) → t.price k ≤ top_price

-- Who holds a ticket that covers another is never worse off, now or later. The laws speak of the events that there are: what
-- a tariff answers at a number above 15 is left to it.
pub record TariffLaws {K : Type 0} (t : TariffModel K) : Type 0 where
  pub transitive : (j k l : K) → t.covers j k ≡ true → t.covers k l ≡ true → t.covers j l ≡ true
  pub no_dearer : (k l : K) → t.covers k l ≡ true → t.price k ≤ t.price l
  pub monotone : (k l : K) (g h : Gauges) (e : ℕ) → e ≤ top_event → t.covers k l ≡ true → AtMost g h → t.covers (t.next k g e) (t.next l h e) ≡ true
  pub never_falls : (k : K) (g : Gauges) (e : ℕ) → e ≤ top_event → t.price k ≤ t.price (t.next k g e)
