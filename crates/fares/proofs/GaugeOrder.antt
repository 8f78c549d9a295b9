-- The order of gauges is reflexive and transitive.
use Rattle.std.proofs.Common.{arith}
use Rattle.fares.specs.Readings.{AtMost}
use Rattle.fares.specs.declared.gauges.Gauges.{Gauges}

pub at_most_trans : {f g h : Gauges} → AtMost f g → AtMost g h → AtMost f h
at_most_trans a b = record { metres = omega arith; stops = omega arith; zones = omega arith; level = omega arith }

pub at_most_same : (g : Gauges) → AtMost g g
at_most_same g = record { metres = omega arith; stops = omega arith; zones = omega arith; level = omega arith }
