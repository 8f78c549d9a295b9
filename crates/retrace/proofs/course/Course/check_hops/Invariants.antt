use Rattle.retrace.specs.Missteps.{RunsUpTo}
use Rattle.retrace.specs.Travels.{course_setup}
use Rattle.retrace.proofs.course.Course.check_hops.Given as goal

-- the hops before this one run, and are of one trip
abbrev pub invariant-loop-place : goal.invariant-loop-place
invariant-loop-place g l = RunsUpTo (course_setup g.T.Timetable.hops g.F.Fare.model l.self) l.leg.first l.place
