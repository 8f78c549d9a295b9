use Rattle.std.proofs.Common.{◌≡◌, take, None}
use Rattle.journeys.specs.Lists.{foldi}
use Rattle.journeys.specs.Selection.{picking_one}
use Rattle.scan.specs.Chains.{labels_in}
use Rattle.planner.proofs.selection.pick.Given as goal

-- the labels before this one are looked at
abbrev pub invariant-loop-place : goal.invariant-loop-place
invariant-loop-place g l = l.found ≡ foldi (picking_one (g.F.Fare.model l.fare) l.destination l.bound) 0 (take l.place (labels_in l.labels)) None
