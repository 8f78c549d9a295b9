-- What the sets of zones are by their members: the sets of one zone, unions, inclusion and the count.
-- Assumes nothing.
use Rattle.std.specs.Prelude.{◌≡◌, ℕ, zero, suc, ◌+◌, ◌/◌, ◌%◌, ◌^◌, ◌<◌, Bool, true, false, cond, ◌||◌, Decides, ◌==◌}
use Rattle.measures.specs.Bounds.{zone_count}
use Rattle.measures.specs.ZoneSets.{zones_model}
use Rattle.measures.specs.declared.weights.ZoneSet.{ZoneSet}

-- the zone is a member
abbrev pub has_zone : ZoneSet → ℕ → Bool
has_zone a z = a.members / 2 ^ z % 2 == 1

-- how many numbers below the bound pass
unfoldable pub count_below : (ℕ → Bool) → ℕ → ℕ
count_below p zero = 0
count_below p (suc n) = cond (p 0) 1 0 + count_below (λ z. p (suc z)) n

-- the measure of zones is one of sets
pub record ZonesAreSets : Type 0 where
  -- nothing ridden touches no zone
  pub none : (z : ℕ) → has_zone zones_model.neutral z ≡ false
  -- a hop touches the zone that it arrives in, and no other
  pub arrival : (metres level y z : ℕ) → z < zone_count → has_zone (zones_model.hop metres level y) z ≡ (y == z)
  -- a fare starts in the zone of its start stop
  pub origin : (y z : ℕ) → z < zone_count → has_zone (zones_model.start y) z ≡ (y == z)
  -- a sum has the zones of either
  pub union : (a b : ZoneSet) (z : ℕ) → has_zone (zones_model.add a b) z ≡ (has_zone a z || has_zone b z)
  -- the order is inclusion
  pub inclusion : (a b : ZoneSet) → Decides (zones_model.at_most a b) ((z : ℕ) → z < zone_count → has_zone a z ≡ true → has_zone b z ≡ true)
  -- gauge 2 counts the members
  pub members : (a : ZoneSet) → (zones_model.gauges a).zones ≡ count_below (has_zone a) zone_count
