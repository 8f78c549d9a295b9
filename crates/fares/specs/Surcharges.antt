-- A surcharge over any tariff: its event marks a ticket for good, and a marked ticket costs more.
-- Assumes nothing.
use Rattle.std.specs.Prelude.{ℕ, ◌+◌, min, Bool, false, cond, not, ◌&&◌, ◌||◌, List, Ok, Err, Result, ◌==◌, nat_le}
use Rattle.fares.specs.Limits.{top_price, first_marking_event, top_event, least_extra, top_extra}
use Rattle.fares.specs.Refusals.{cause}
use Rattle.fares.specs.Tariffs.{TariffModel}
use Rattle.fares.specs.declared.refusal.Refusal.TheVariants.{Surcharge}
use Rattle.fares.specs.declared.tickets.Marked.{Marked}

-- an event of its own (0 and 1 are nothing and a change), and what it costs more
abbrev pub surcharge_within : ℕ → ℕ → Bool
surcharge_within event extra = nat_le first_marking_event event && nat_le event top_event && nat_le least_extra extra && nat_le extra top_extra

-- a surcharge opens with what it is given, or is refused
abbrev pub surcharge_opened : {T : Type 0} → T → ℕ → ℕ → Result (T × ℕ × ℕ) (ℕ × List ℕ)
surcharge_opened below event extra = cond (surcharge_within event extra) (Ok (below, event, extra)) (Err (cause Surcharge))

-- the tariff below goes on at every event; the mark is not set at first
abbrev pub surcharge_model : {K : Type 0} → ℕ → ℕ → TariffModel K → TariffModel (Marked K)
surcharge_model event extra t = record {
  start = λ class. record { below = t.start class; marked = false };
  price = λ k. cond k.marked (min top_price (t.price k.below + extra)) (t.price k.below);
  next = λ k g e. record { below = t.next k.below g e; marked = k.marked || (e == event) };
  covers = λ k l. t.covers k.below l.below && (not k.marked || l.marked);
}
