use Rattle.std.proofs.Common.{Err, ◌≤◌, true, false, length, sym, ap, ◌∙◌, arith, rules}
use Rattle.std.proofs.lemmas.List.{length-take}
use Rattle.short_list.specs.Items.{items}
use Rattle.timetable.specs.Table.{trips_of}
use Rattle.service_day.specs.declared.refusal.Refusal.TheVariants.{NoSuchTrip}
use Rattle.service_day.specs.declared.delayed_trips.DelayedTrips.{DelayedTrips}
use Rattle.service_day.specs.DelayTables.{trip_of}
use Rattle.service_day.specs.Layers.{delay_in}
use Rattle.service_day.specs.Refusals.{told, left}
use Rattle.service_day.specs.Tables.{most_listed}
use Rattle.service_day.proofs.Outcomes.{delay_off, delay_full, delay_long, delay_done, taken_late}
use Rattle.service_day.proofs.Placed.{full_at, late_set}
use Rattle.service_day.proofs.Standing.{delay_refuses}
use Rattle.service_day.proofs.delays.Layer+T+DelayedTrips.delay.Goals as goal

few : (d : DelayedTrips) → length (items d.delays) ≤ most_listed
few d = let f = d.delays.fits in omega (arith, length-take d.delays.used d.delays.places)

pub returns-then-seconds-eq-NO_DELAY : goal.returns-then-seconds-eq-NO_DELAY
returns-then-seconds-eq-NO_DELAY g c =
    let ds = items c.args.self.now.changes.delays in
    let e = delay_off (trips_of (g.T.Timetable.hops c.args.self.now.below)) c.args.trip c.trips.result c.trips.ensures c.if-trip-trips.false c.args.seconds ds c.if-seconds-eq-NO_DELAY.true in
    record {
      answer = sym (ap told e);
      causes = delay_refuses (trips_of (g.T.Timetable.hops c.args.self.now.below)) c.args.trip c.args.seconds (delay_in c.args.self.now) _ (sym (ap told e));
      delay = taken_late c.args.trip c.args.seconds ds (items c.strike.new.self.delays) c.if-seconds-eq-NO_DELAY.true c.strike.ensures
          ∙ sym (ap (left (delay_in c.args.self.now)) e);
      under = search rules;
    }

pub returns-then-is_full_for : goal.returns-then-is_full_for
returns-then-is_full_for g c =
    let d = c.args.self.now.changes in
    let e = delay_full (trips_of (g.T.Timetable.hops c.args.self.now.below)) c.args.trip c.trips.result c.trips.ensures c.if-trip-trips.false c.args.seconds (items d.delays) d.tidy d.late
    c.if-seconds-eq-NO_DELAY.false (full_at trip_of c.args.trip (items d.delays) c.place_of-place.result c.place_of-place.ensures (few d) true c.if-is_full_for.ensures) in
    record {
      answer = sym (ap told e);
      causes = delay_refuses (trips_of (g.T.Timetable.hops c.args.self.now.below)) c.args.trip c.args.seconds (delay_in c.args.self.now) _ (sym (ap told e));
      delay = sym (ap (left (delay_in c.args.self.now)) e);
      under = search rules;
    }

pub returns-then-seconds-gt-LONGEST_DELAY : goal.returns-then-seconds-gt-LONGEST_DELAY
returns-then-seconds-gt-LONGEST_DELAY g c =
    let d = c.args.self.now.changes in
    let e = delay_long (trips_of (g.T.Timetable.hops c.args.self.now.below)) c.args.trip c.trips.result c.trips.ensures c.if-trip-trips.false c.args.seconds (items d.delays) d.tidy d.late
    c.if-seconds-eq-NO_DELAY.false (full_at trip_of c.args.trip (items d.delays) c.place_of-place.result c.place_of-place.ensures (few d) false c.if-is_full_for.ensures) c.if-seconds-gt-LONGEST_DELAY.true in
    record {
      answer = sym (ap told e);
      causes = delay_refuses (trips_of (g.T.Timetable.hops c.args.self.now.below)) c.args.trip c.args.seconds (delay_in c.args.self.now) _ (sym (ap told e));
      delay = sym (ap (left (delay_in c.args.self.now)) e);
      under = search rules;
    }

pub put-requires-clause-room : goal.put-requires-clause-room
put-requires-clause-room g c =
    let d = c.args.self.now.changes in
    full_at trip_of c.args.trip (items d.delays) c.place_of-place.result c.place_of-place.ensures (few d) false c.if-is_full_for.ensures

pub returns : goal.returns
returns g c =
    let d = c.args.self.now.changes in
    let e = delay_done (trips_of (g.T.Timetable.hops c.args.self.now.below)) c.args.trip c.trips.result c.trips.ensures c.if-trip-trips.false c.args.seconds (items d.delays) d.tidy d.late
    c.if-seconds-eq-NO_DELAY.false (full_at trip_of c.args.trip (items d.delays) c.place_of-place.result c.place_of-place.ensures (few d) false c.if-is_full_for.ensures) c.if-seconds-gt-LONGEST_DELAY.false in
    record {
      answer = sym (ap told e);
      causes = delay_refuses (trips_of (g.T.Timetable.hops c.args.self.now.below)) c.args.trip c.args.seconds (delay_in c.args.self.now) _ (sym (ap told e));
      delay = late_set c.args.trip c.args.seconds (items d.delays) (items c.put.new.self.delays) c.put.ensures
          ∙ sym (ap (left (delay_in c.args.self.now)) e);
      under = search rules;
    }

pub returns-then-trip-trips-clause-causes : goal.returns-then-trip-trips-clause-causes
returns-then-trip-trips-clause-causes g c = delay_refuses (trips_of (g.T.Timetable.hops c.args.self.now.below)) c.args.trip c.args.seconds (delay_in c.args.self.now) (Err (NoSuchTrip c.args.trip)) (search rules)
