use Rattle.std.proofs.Common.{◌≡◌, length, take}
use Rattle.planner.specs.Handout.{legs_from}
use Rattle.sheet.specs.Outcome.{pasted}
use Rattle.scan.specs.Chains.{labels_in}
use Rattle.planner.proofs.tracing.Traces.trace_all.Given as goal

-- the rows before this one have their legs
abbrev pub invariant-loop-row : goal.invariant-loop-row
invariant-loop-row g l =
    (l.end ≡ length (legs_from (labels_in l.self.labels.now) 0 (take l.row l.offers)))
    × (l.legs ≡ pasted 0 (legs_from (labels_in l.self.labels.now) 0 (take l.row l.offers)) l.initial.legs)
