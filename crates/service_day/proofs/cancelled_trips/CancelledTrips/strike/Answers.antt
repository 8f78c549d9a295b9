use Rattle.std.proofs.Common.{◌≡◌, rules, ap, ◌∙◌}
use Rattle.short_list.specs.Items.{items}
use Rattle.service_day.specs.Tables.{itself, tidy, without}
use Rattle.service_day.proofs.Members.{still_tidy_without}
use Rattle.service_day.proofs.cancelled_trips.CancelledTrips.strike.Goals as goal

pub invariant_of-self : goal.invariant_of-self
invariant_of-self c =
    let struck : items c.retain.new.self ≡ without itself c.args.trip (items c.args.self.now.trips) = c.retain.ensures _ (λ x b k. search rules) in
    record { marked = c.marks_of-self.ensures; tidy = ap (tidy itself) struck ∙ still_tidy_without itself c.args.trip (items c.args.self.now.trips) c.args.self.now.tidy }
