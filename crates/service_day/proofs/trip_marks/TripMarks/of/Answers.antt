use Rattle.std.proofs.Common.{true, false, ◌==◌, ap, ◌∙◌}
use Rattle.std.specs.List.{list_any}
use Rattle.std.proofs.lemmas.List.{length-replicate, length-set, take_all}
use Rattle.service_day.specs.Marks.{mark_of}
use Rattle.service_day.proofs.Marks.{none_marked, one_marked}
use Rattle.service_day.proofs.trip_marks.TripMarks.of.Goals as goal

pub loop-entry-init : goal.loop-entry-init
loop-entry-init g c = (length-replicate 256 false, λ key h. none_marked key)

pub loop-entry-preserved : goal.loop-entry-preserved
loop-entry-preserved g c = (
  length-set c.loop-entry.marks c.mark_of.result true ∙ c.loop-entry.invariant.0,
  λ key h. one_marked key c.loop-entry.marks c.loop-entry.invariant.0 c.trip.result c.mark_of.result c.mark_of.ensures.is c.mark_of.ensures.within c.args.entries.now c.loop-entry.entry-index c.entry-item.result
      c.loop-entry-test.true c.entry-item.is (h c.entry-item.result c.trip.result c.trip.ensures) (c.loop-entry.invariant.1 key h),
)

pub invariant_of-result : goal.invariant_of-result
invariant_of-result g c = record { sized = c.loop-entry.invariant.0 }

pub returns : goal.returns
returns g c = λ key h i. c.loop-entry.invariant.1 key h i ∙ ap (list_any (λ e. mark_of (key e) == i)) (take_all c.loop-entry.entry-index c.args.entries.now c.loop-entry-test.false)
