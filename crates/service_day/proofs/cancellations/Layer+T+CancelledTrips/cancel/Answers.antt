use Rattle.std.proofs.Common.{Err, rules, sym, ◌∙◌}
use Rattle.short_list.specs.Items.{items}
use Rattle.timetable.specs.Table.{trips_of}
use Rattle.service_day.specs.declared.refusal.Refusal.TheVariants.{NoSuchTrip}
use Rattle.service_day.specs.Layers.{cancelled_in}
use Rattle.service_day.proofs.Outcomes.{cancel_listed}
use Rattle.service_day.proofs.Standing.{cancel_refuses}
use Rattle.service_day.proofs.cancellations.Layer+T+CancelledTrips.cancel.Goals as goal

pub returns : goal.returns
returns g c =
    let table = c.args.self.now.changes in
    let done = cancel_listed (trips_of (g.T.Timetable.hops c.args.self.now.below)) c.args.trip c.trips.result c.trips.ensures c.if-trip-trips.false
    (items table.trips) (items c.list.new.self.trips) c.list.result table.tidy (sym c.if-is_cancelled.ensures) c.list.ensures.room c.list.ensures.listed in
    record {
      answer = c.ok_or.ensures.value ∙ done.0;
      causes = cancel_refuses (trips_of (g.T.Timetable.hops c.args.self.now.below)) c.args.trip (cancelled_in c.args.self.now) _ (c.ok_or.ensures.value ∙ done.0);
      set = done.1;
      under = search rules;
    }

pub returns-then-trip-trips-clause-causes : goal.returns-then-trip-trips-clause-causes
returns-then-trip-trips-clause-causes g c = cancel_refuses (trips_of (g.T.Timetable.hops c.args.self.now.below)) c.args.trip (cancelled_in c.args.self.now) (Err (NoSuchTrip c.args.trip)) (search rules)
