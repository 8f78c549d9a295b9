-- Marks that stand for trips. Trips share them: one whose mark is set need not be listed, and one whose mark is not set is not.
-- Assumes nothing.
use Rattle.std.specs.Prelude.{◌≡◌, ℕ, ◌%◌, Bool, false, List, ◌==◌, get_or}
use Rattle.std.specs.List.{list_any}

-- how many there are
abbrev pub mark_count : ℕ
mark_count = 256

-- the place of a trip's mark
unfoldable pub mark_of : ℕ → ℕ
mark_of trip = trip % mark_count

-- the mark of a trip is set
abbrev pub marked : List Bool → ℕ → Bool
marked marks trip = get_or marks (mark_of trip) false

-- the marks of these entries, where `key e` is the trip of the entry e: a mark is set exactly where it is that of an entry
abbrev pub MarksOf : {E : Type 0} → (E → ℕ) → List E → List Bool → Type 0
MarksOf key es marks = (i : ℕ) → get_or marks i false ≡ list_any (λ e. mark_of (key e) == i) es
