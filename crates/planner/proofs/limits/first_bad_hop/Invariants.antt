use Rattle.std.proofs.Common.{◌≡◌, take, drop}
use Rattle.timetable.specs.Table.{most_hops}
use Rattle.planner.specs.Limits.{first_bad, hop_within}
use Rattle.planner.proofs.limits.first_bad_hop.Given as goal

-- what is left of the hops gives the answer
abbrev pub invariant-loop-place : goal.invariant-loop-place
invariant-loop-place g l = first_bad (hop_within l.stops) l.place (drop l.place (take most_hops (g.T.Timetable.hops l.timetable))) ≡ first_bad (hop_within l.stops) 0 (take most_hops (g.T.Timetable.hops l.timetable))
