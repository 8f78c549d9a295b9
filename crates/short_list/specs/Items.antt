-- The entries that a short list holds.
-- Assumes nothing.
use Rattle.std.specs.Prelude.{ℕ, List, take}
use Rattle.short_list.specs.declared.list.ShortList.{ShortList}

-- the used places, in order
abbrev pub items : {X : Type 0} {N : ℕ} → ShortList X N → List X
items l = take l.used l.places
