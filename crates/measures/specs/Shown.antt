-- How measures show their weights on the four gauges.
-- Assumes nothing.
use Rattle.std.specs.Prelude.{ℕ, min, max}
use Rattle.std.proofs.Common.{arith}
use Rattle.fares.specs.Limits.{top_reading}
use Rattle.fares.specs.declared.gauges.Gauges.{Gauges}

-- gauges 0 to 3, each held at the largest number that it shows
abbrev pub readings : ℕ → ℕ → ℕ → ℕ → Gauges
readings metres stops zones level = record {
  metres = min metres top_reading;
  stops = min stops top_reading;
  zones = min zones top_reading;
  level = min level top_reading;
  fits = (omega arith, omega arith, omega arith, omega arith);
}

-- the greater in each gauge
abbrev pub greater_readings : Gauges → Gauges → Gauges
greater_readings g h = readings (max g.metres h.metres) (max g.stops h.stops) (max g.zones h.zones) (max g.level h.level)
