-- For each ticket a threshold at each gauge: no rule of it is met before some gauge has reached its own.
-- Assumes nothing.
use Rattle.std.specs.Prelude.{◌≡◌, ℕ, ◌<◌, min, fold, Bool, not, cond, ◌&&◌, List, length, ◌==◌, get_or, nat_lt}
use Rattle.fares.specs.declared.gauges.Gauges.{Gauges}
use Rattle.fares.specs.Limits.{top_reading}
use Rattle.fares.specs.Readings.{largest_readings}
use Rattle.rule_table.specs.declared.rule.Rule.{Rule}
use Rattle.rule_table.specs.Spans.{spot, spots}

-- no gauge has reached its threshold
abbrev pub short_of : Gauges → Gauges → Bool
short_of t g = nat_lt g.metres t.metres && (nat_lt g.stops t.stops && (nat_lt g.zones t.zones && nat_lt g.level t.level))

-- the first gauge at which a rule with these minima asks for anything: metres, stops, zones, or else the level
abbrev pub asks_metres : Gauges → Bool
asks_metres m = nat_lt 0 m.metres

abbrev pub asks_stops : Gauges → Bool
asks_stops m = not (nat_lt 0 m.metres) && nat_lt 0 m.stops

abbrev pub asks_zones : Gauges → Bool
asks_zones m = not (nat_lt 0 m.metres) && (not (nat_lt 0 m.stops) && nat_lt 0 m.zones)

abbrev pub asks_level : Gauges → Bool
asks_level m = not (nat_lt 0 m.metres) && (not (nat_lt 0 m.stops) && not (nat_lt 0 m.zones))

module _ (reading : Gauges → ℕ) (asks : Gauges → Bool) where
  -- what is held once the rule was looked at: the lower of it and the rule's minimum, where the rule is one of this spot and asks there
  abbrev pub lowered_by : ℕ → ℕ → Rule → ℕ
  lowered_by k held r = cond (spot r.ticket == k && asks r.minima) (min held (reading r.minima)) held

  -- the least minimum of such a rule, or the largest reading
  abbrev pub least : ℕ → List Rule → ℕ
  least k rs = fold (lowered_by k) top_reading rs

  -- each threshold is that
  abbrev pub Leasts : List Gauges → List Rule → Type 0
  Leasts ts rs = (k : ℕ) → k < spots → reading (get_or ts k largest_readings) ≡ least k rs

-- the thresholds of each ticket
pub record Thresholds (ts : List Gauges) (rs : List Rule) : Type 0 where
  pub sized : length ts ≡ spots
  pub metres : Leasts (λ g. g.metres) asks_metres ts rs
  pub stops : Leasts (λ g. g.stops) asks_stops ts rs
  pub zones : Leasts (λ g. g.zones) asks_zones ts rs
  pub level : Leasts (λ g. g.level) asks_level ts rs
