use Rattle.std.proofs.Common.{sym, ◌∙◌}
use Rattle.short_list.specs.Items.{items}
use Rattle.service_day.specs.Tables.{itself}
use Rattle.service_day.proofs.Marks.{not_sought}
use Rattle.service_day.proofs.cancelled_trips.CancelledTrips.is_listed.Goals as goal

pub returns-else-has : goal.returns-else-has
returns-else-has c =
    let t = c.args.self.now in
    c.if-has.false ∙ sym (not_sought itself t.marks.marks (items t.trips) c.args.trip t.marked (sym c.has.ensures ∙ c.if-has.false))
