use Rattle.retrace.specs.Travels.{course_setup}
use Rattle.retrace.proofs.Riding.{RidesOn}
use Rattle.retrace.proofs.course.Course.ride.Given as goal

-- so many hops are ridden
abbrev pub invariant-loop-ridden : goal.invariant-loop-ridden
invariant-loop-ridden g l = RidesOn (course_setup g.T.Timetable.hops g.F.Fare.model l.self) l.at l.leg.first l.used l.initial.steps l.steps l.step l.ridden
