use Rattle.std.proofs.Common.{true, set, ap, ◌∙◌}
use Rattle.std.proofs.lemmas.List.{length-set}
use Rattle.service_day.proofs.trip_marks.TripMarks.mark.Goals as goal

pub invariant_of-self : goal.invariant_of-self
invariant_of-self c = record { sized = length-set c.args.self.now.marks c.mark_of.result true ∙ c.args.self.now.sized }

pub returns : goal.returns
returns c = ap (λ m. set c.args.self.now.marks m true) c.mark_of.ensures.is
