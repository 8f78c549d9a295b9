use Rattle.std.proofs.Common.{◌≡◌, rules, ap, ◌∙◌}
use Rattle.short_list.specs.Items.{items}
use Rattle.service_day.specs.DelayTables.{trip_of, all_late}
use Rattle.service_day.specs.Tables.{tidy, without}
use Rattle.service_day.proofs.Members.{still_tidy_without}
use Rattle.service_day.proofs.Outcomes.{late_without}
use Rattle.service_day.proofs.delayed_trips.DelayedTrips.strike.Goals as goal

pub invariant_of-self : goal.invariant_of-self
invariant_of-self c =
    let struck : items c.retain.new.self ≡ without trip_of c.args.trip (items c.args.self.now.delays) = c.retain.ensures _ (λ x b k. search rules) in
    record {
      tidy = ap (tidy trip_of) struck ∙ still_tidy_without trip_of c.args.trip (items c.args.self.now.delays) c.args.self.now.tidy;
      marked = c.marks_of-self.ensures;
      late = ap all_late struck ∙ late_without c.args.trip (items c.args.self.now.delays) c.args.self.now.late;
    }
