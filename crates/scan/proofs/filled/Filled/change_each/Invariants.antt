use Rattle.std.proofs.Common.{◌≡◌, ◌++◌, map, take, drop}
use Rattle.scan.proofs.filled.Filled.change_each.Given as goal

abbrev pub invariant-loop-place : goal.invariant-loop-place
invariant-loop-place g l =
    (r : _ → _) → ((x y : _) → goal.C-post g l.change x y → y ≡ r x) → l.place-items ≡ map r (take l.place-index l.initial.place-items) ++ drop l.place-index l.initial.place-items
