-- Weights with a range are equal where their numbers are.
-- Assumes nothing.
use Rattle.std.specs.Prelude.{◌≡◌, ◌^◌, ◌<◌, ◌≤◌}
use Rattle.std.proofs.Math.Bridge.{le_prop}
use std.HLevel.{prop→path_p}
use Rattle.fares.specs.Limits.{top_reading}
use Rattle.measures.specs.Bounds.{top_level, zone_count}
use Rattle.measures.specs.declared.weights.Amount.{Amount}
use Rattle.measures.specs.declared.weights.Both.{Both}
use Rattle.measures.specs.declared.weights.Height.{Height}
use Rattle.measures.specs.declared.weights.ZoneSet.{ZoneSet}

pub same_amount : {a b : Amount} → a.value ≡ b.value → a ≡ b
same_amount {a} {b} e = λ i. record { value = e i; fits = prop→path_p (λ j. e j ≤ top_reading) le_prop a.fits b.fits i }

pub same_height : {a b : Height} → a.value ≡ b.value → a ≡ b
same_height {a} {b} e = λ i. record { value = e i; fits = prop→path_p (λ j. e j ≤ top_level) le_prop a.fits b.fits i }

pub same_zones : {a b : ZoneSet} → a.members ≡ b.members → a ≡ b
same_zones {a} {b} e = λ i. record { members = e i; fits = prop→path_p (λ j. e j < 2 ^ zone_count) le_prop a.fits b.fits i }

pub same_both : {A B : Type 0} {a b : Both A B} → a.first ≡ b.first → a.second ≡ b.second → a ≡ b
same_both p q = λ i. record { first = p i; second = q i }
