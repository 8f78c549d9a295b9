-- Four gauge readings, and when one is at most another.
-- Assumes nothing.
use Rattle.std.specs.Prelude.{◌≤◌}
use Rattle.std.proofs.Common.{arith}
use Rattle.fares.specs.Limits.{top_reading}
use Rattle.fares.specs.declared.gauges.Gauges.{Gauges}

-- no gauge of the one shows more than that of the other
pub record AtMost (g h : Gauges) : Type 0 where
  pub metres : g.metres ≤ h.metres
  pub stops : g.stops ≤ h.stops
  pub zones : g.zones ≤ h.zones
  pub level : g.level ≤ h.level

-- every gauge at 0
abbrev pub lowest_readings : Gauges
lowest_readings = record { metres = 0; stops = 0; zones = 0; level = 0; fits = (omega arith, omega arith, omega arith, omega arith) }

-- every gauge at the largest number
abbrev pub largest_readings : Gauges
largest_readings =
    record { metres = top_reading; stops = top_reading; zones = top_reading; level = top_reading; fits = (omega arith, omega arith, omega arith, omega arith) }
