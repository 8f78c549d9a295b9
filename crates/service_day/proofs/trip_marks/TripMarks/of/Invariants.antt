use Rattle.std.proofs.Common.{◌≡◌, ℕ, length, take}
use Rattle.service_day.specs.Marks.{mark_count, MarksOf}
use Rattle.service_day.proofs.trip_marks.TripMarks.of.Given as goal

abbrev pub invariant-loop-entry : goal.invariant-loop-entry
invariant-loop-entry g l =
    (length l.marks ≡ mark_count)
    × ((key : _ → ℕ) → ((e : _) (t : ℕ) → goal.F-post g l.trip e t → t ≡ key e) → MarksOf key (take l.entry-index l.entries) l.marks)
