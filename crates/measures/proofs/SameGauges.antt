-- Gauges are the same where they show the same.
use Rattle.std.proofs.Common.{◌≡◌, ◌≤◌, arith}
use Rattle.std.specs.Coded.{le_prop}
use std.HLevel.{prop→path_p}
use Rattle.fares.specs.Limits.{top_reading}
use Rattle.fares.specs.declared.gauges.Gauges.{Gauges}
use Rattle.measures.specs.Shown.{readings}

pub same_gauges : (g h : Gauges) → g.metres ≡ h.metres → g.stops ≡ h.stops → g.zones ≡ h.zones → g.level ≡ h.level → g ≡ h
same_gauges g h p q r s = λ i. record {
  metres = p i;
  stops = q i;
  zones = r i;
  level = s i;
  fits = (
    prop→path_p (λ j. p j ≤ top_reading) le_prop g.fits.0 h.fits.0 i,
    prop→path_p (λ j. q j ≤ top_reading) le_prop g.fits.1 h.fits.1 i,
    prop→path_p (λ j. r j ≤ top_reading) le_prop g.fits.2 h.fits.2 i,
    prop→path_p (λ j. s j ≤ top_reading) le_prop g.fits.3 h.fits.3 i,
  );
}

pub shown : (g : Gauges) → readings g.metres g.stops g.zones g.level ≡ g
shown g = same_gauges (readings g.metres g.stops g.zones g.level) g (omega (arith, g.fits)) (omega (arith, g.fits)) (omega (arith, g.fits)) (omega (arith, g.fits))
