use Rattle.std.proofs.Common.{◌≡◌, drop}
use Rattle.planner.specs.Limits.{first_bad}
use Rattle.planner.proofs.limits.list_fault.Given as goal

-- what is left of the list gives the answer
abbrev pub invariant-loop-place : goal.invariant-loop-place
invariant-loop-place g l = first_bad (g.X.Limited.within l.stops) l.place (drop l.place l.list) ≡ first_bad (g.X.Limited.within l.stops) 0 l.list
