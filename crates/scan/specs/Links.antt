-- The place of a label, or none, as one number.
-- Assumes nothing.
use Rattle.std.specs.Prelude.{ℕ, zero, suc, Some, None, Option}
use Rattle.scan.specs.declared.link.Link.{Link}

-- one more than the place, or 0 for none
abbrev pub link : Option ℕ → Link
link None = record { code = 0 }
link (Some p) = record { code = suc p }

abbrev pub placed : ℕ → Option ℕ
placed zero = None
placed (suc p) = Some p

-- the place that it stands for
abbrev pub place_of : Link → Option ℕ
place_of l = placed l.code
