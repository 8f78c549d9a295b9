use Rattle.std.proofs.Common.{sym, ◌∙◌}
use Rattle.short_list.specs.Items.{items}
use Rattle.service_day.specs.DelayTables.{trip_of}
use Rattle.service_day.proofs.Placed.{is_unlisted, entry_left, appended}
use Rattle.service_day.proofs.delayed_trips.DelayedTrips.put.Goals as goal

pub list-requires-clause-new : goal.list-requires-clause-new
list-requires-clause-new c = is_unlisted trip_of c.args.delay.trip (items c.args.self.now.delays) (sym c.in-None.is ∙ c.requires.found)

pub list-requires-clause-room : goal.list-requires-clause-room
list-requires-clause-room c =
    let ds = items c.args.self.now.delays in
    entry_left trip_of c.args.delay.trip ds c.requires.room (is_unlisted trip_of c.args.delay.trip ds (sym c.in-None.is ∙ c.requires.found))

pub returns-in-None : goal.returns-in-None
returns-in-None c =
    let ds = items c.args.self.now.delays in
    c.list.ensures ∙ appended trip_of c.args.delay ds (is_unlisted trip_of c.args.delay.trip ds (sym c.in-None.is ∙ c.requires.found))
