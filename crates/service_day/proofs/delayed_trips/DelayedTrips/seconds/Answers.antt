use Rattle.std.proofs.Common.{sym, ◌∙◌}
use Rattle.short_list.specs.Items.{items}
use Rattle.service_day.specs.DelayTables.{trip_of}
use Rattle.service_day.proofs.Marks.{not_sought, none_late}
use Rattle.service_day.proofs.delayed_trips.DelayedTrips.seconds.Goals as goal

pub returns-then-not-has : goal.returns-then-not-has
returns-then-not-has c =
    let t = c.args.self.now in
    sym (none_late (items t.delays) c.args.trip (not_sought trip_of t.marks.marks (items t.delays) c.args.trip t.marked (sym c.has.ensures ∙ c.if-not-has.true)))
