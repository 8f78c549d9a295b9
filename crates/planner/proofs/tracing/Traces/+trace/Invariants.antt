use Rattle.planner.proofs.tracing.Traces.+trace.Given as goal

-- each label comes from an earlier one
abbrev pub decreases-trace : goal.decreases-trace
decreases-trace g l = l.place
