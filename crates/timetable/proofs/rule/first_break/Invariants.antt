use Rattle.std.proofs.Common.{◌≡◌, drop, None}
use Rattle.timetable.proofs.Breaks.{break_after}
use Rattle.timetable.proofs.rule.first_break.Given as goal

-- what is left of the list gives the answer
abbrev pub invariant-loop-place : goal.invariant-loop-place
invariant-loop-place l = break_after l.before l.place (drop l.place l.hops) ≡ break_after None 0 l.hops
