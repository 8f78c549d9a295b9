-- The limits of levels and zones.
-- Assumes nothing.
use Rattle.std.specs.Prelude.{ℕ}

-- levels are 0 to this one
abbrev pub top_level : ℕ
top_level = 7

-- zones are 0 to 63: there are so many
abbrev pub zone_count : ℕ
zone_count = 64
