use Rattle.std.proofs.Common.{sym, ◌∙◌}
use Rattle.short_list.specs.Items.{items}
use Rattle.service_day.specs.DelayTables.{trip_of}
use Rattle.service_day.proofs.Marks.{not_sought}
use Rattle.service_day.proofs.Placed.{not_found}
use Rattle.service_day.proofs.delayed_trips.DelayedTrips.place_of.Goals as goal

pub returns-then-not-has : goal.returns-then-not-has
returns-then-not-has c =
    let t = c.args.self.now in
    not_found trip_of c.args.trip (items t.delays) (not_sought trip_of t.marks.marks (items t.delays) c.args.trip t.marked (sym c.has.ensures ∙ c.if-not-has.true))
