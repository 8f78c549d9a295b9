-- The zones: a set out of 0 to 63, as the bits of a number, under union, ordered by inclusion.
-- Assumes nothing.
use Rattle.std.specs.Prelude.{ℕ, ◌%◌, ◌^◌, Bool, cond, ◌==◌, bit_and, bit_or, count_ones, nat_lt}
use Rattle.std.proofs.Common.{mod-lt, arith}
use Rattle.fares.specs.Measures.{MeasureModel}
use Rattle.measures.specs.Bounds.{zone_count}
use Rattle.measures.specs.Shown.{readings}
use Rattle.measures.specs.declared.weights.ZoneSet.{ZoneSet}

-- the set of the zones whose bits stand; a bit past the last zone counts for none
abbrev pub set_of_zone : ℕ → ZoneSet
set_of_zone bits = record { members = bits % 2 ^ zone_count; fits = mod-lt bits (omega arith) }

-- the bit of a zone; none where the number is no zone
abbrev pub bit_of_zone : ℕ → ℕ
bit_of_zone z = cond (nat_lt z zone_count) (2 ^ z) 0

-- every zone of the one is in the other
abbrev pub zones_included : ZoneSet → ZoneSet → Bool
zones_included a b = bit_and a.members b.members == a.members

-- a fare starts in the start stop's zone, a hop touches the zone that it arrives in, and gauge 2 counts
abbrev pub zones_model : MeasureModel ZoneSet
zones_model = record {
  neutral = set_of_zone 0;
  add = λ a b. set_of_zone (bit_or a.members b.members);
  at_most = zones_included;
  gauges = λ a. readings 0 0 (count_ones a.members) 0;
  start = λ zone. set_of_zone (bit_of_zone zone);
  hop = λ metres level zone. set_of_zone (bit_of_zone zone);
}
