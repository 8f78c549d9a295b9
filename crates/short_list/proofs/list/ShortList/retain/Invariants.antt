use Rattle.std.proofs.Common.{◌≡◌, ◌≤◌, Bool}
use Rattle.std.specs.Fn.{FnReturnsAt}
use Rattle.std.proofs.lemmas.List.Filters.{FiltersInPlace}
use Rattle.short_list.proofs.list.ShortList.retain.Given as goal

-- those so far that pass the test stand in front, and so no more than so far
abbrev pub invariant-loop-place : goal.invariant-loop-place
invariant-loop-place g l =
    (l.kept ≤ l.place)
    × (l.self.used ≡ l.initial.self.used)
    × ((test : _ → Bool) → ((x : _) (b : Bool) → FnReturnsAt g.F.Fn l.keep x b → b ≡ test x) → FiltersInPlace test l.initial.self.places l.self.places l.kept l.place)
