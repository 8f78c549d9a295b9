use Rattle.std.proofs.Common.{rules, Err, sym, ap, ◌∙◌}
use Rattle.short_list.specs.Items.{items}
use Rattle.timetable.specs.Table.{trips_of}
use Rattle.service_day.specs.declared.refusal.Refusal.TheVariants.{NoSuchTrip, NotCancelled}
use Rattle.service_day.specs.Layers.{cancelled_in}
use Rattle.service_day.specs.Refusals.{left}
use Rattle.service_day.proofs.Outcomes.{reinstate_done, taken_listed}
use Rattle.service_day.proofs.Standing.{reinstate_refuses}
use Rattle.service_day.proofs.cancellations.Layer+T+CancelledTrips.reinstate.Goals as goal

pub returns-clause-set : goal.returns-clause-set
returns-clause-set g c =
    let ts = items c.args.self.now.changes.trips in
    taken_listed c.args.trip ts (items c.strike.new.self.trips) c.strike.ensures
    ∙ sym (ap (left (cancelled_in c.args.self.now)) (reinstate_done (trips_of (g.T.Timetable.hops c.args.self.now.below)) c.args.trip c.trips.result c.trips.ensures c.if-trip-trips.false ts
    (sym c.if-not-is_cancelled.ensures)))

pub returns-then-trip-trips-clause-causes : goal.returns-then-trip-trips-clause-causes
returns-then-trip-trips-clause-causes g c = reinstate_refuses (trips_of (g.T.Timetable.hops c.args.self.now.below)) c.args.trip (cancelled_in c.args.self.now) (Err (NoSuchTrip c.args.trip)) (search rules)

pub returns-then-not-is_cancelled-clause-causes : goal.returns-then-not-is_cancelled-clause-causes
returns-then-not-is_cancelled-clause-causes g c = reinstate_refuses (trips_of (g.T.Timetable.hops c.args.self.now.below)) c.args.trip (cancelled_in c.args.self.now) (Err (NotCancelled c.args.trip)) (search rules)
