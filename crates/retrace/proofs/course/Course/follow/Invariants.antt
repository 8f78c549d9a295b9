use Rattle.retrace.specs.Travels.{course_setup}
use Rattle.retrace.proofs.Following.{FollowsSoFar}
use Rattle.retrace.proofs.course.Course.follow.Given as goal

-- the legs before this one are followed
abbrev pub invariant-loop-place : goal.invariant-loop-place
invariant-loop-place g l = FollowsSoFar (course_setup g.T.Timetable.hops g.F.Fare.model l.self) l.legs l.initial.steps l.steps l.at l.used l.place
