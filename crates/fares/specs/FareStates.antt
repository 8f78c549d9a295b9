-- Fare states: how a fare starts, what an update makes of it, and when one covers another.
-- Assumes nothing.
use Rattle.std.specs.Prelude.{◌≡◌, ℕ, ◌≤◌, Bool, true, ◌&&◌}
use Rattle.fares.specs.Limits.{change_event, top_event}
use Rattle.fares.specs.Measures.{MeasureModel}
use Rattle.fares.specs.Tariffs.{TariffModel}
use Rattle.fares.specs.declared.fare_state.FareState.{FareState}

module _ {K W : Type 0} (t : TariffModel K) (m : MeasureModel W) where
  -- from the start stop's class and zone
  abbrev pub start_state : ℕ → ℕ → FareState K W
  start_state class zone = record { ticket = t.start class; weight = m.start zone }

  -- add a weight, then take the next ticket at the sum's gauges
  abbrev pub update_state : W → ℕ → FareState K W → FareState K W
  update_state x event s =
      record { ticket = t.next s.ticket (m.gauges (m.add s.weight x)) event; weight = m.add s.weight x }

  -- a change of vehicle: its event, and nothing ridden
  abbrev pub change_state : FareState K W → FareState K W
  change_state = update_state m.neutral change_event

  -- the ticket covers the other's, and the weight is at most the other's
  abbrev pub covers_state : FareState K W → FareState K W → Bool
  covers_state a b = t.covers a.ticket b.ticket && m.at_most a.weight b.weight

  -- the same update on both, at an event that there is, keeps the one covering the other
  abbrev pub KeepsCovering : Type 0
  KeepsCovering = (x : W) (event : ℕ) (a b : FareState K W) → event ≤ top_event → covers_state a b ≡ true → covers_state (update_state x event a) (update_state x event b) ≡ true
