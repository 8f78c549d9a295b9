use Rattle.std.proofs.Common.{ℕ, ap, ◌∙◌}
use Rattle.timetable.specs.Table.{trips_of}
use Rattle.service_day.specs.Days.{delaying}
use Rattle.service_day.specs.Layers.{base, cancelled_in, delay_in}
use Rattle.service_day.specs.Refusals.{told, left}
use Rattle.service_day.proofs.Standing.{delay_refuses}
use Rattle.service_day.proofs.WholeDays.{trips_same, same_day}
use Rattle.service_day.proofs.day.Day.delay.Goals as goal

pub returns : goal.returns
returns g c =
    let day = c.args.self.now in
    let late = delay_in day.layers in
    let trips = trips_same (cancelled_in day.layers.below) (g.T.Timetable.hops (base day)) in
    let answered = c.delay.ensures.answer ∙ ap (λ (n : ℕ). told (delaying n c.args.trip c.args.seconds late)) trips in
    record {
      answer = answered;
      causes = delay_refuses (trips_of (g.T.Timetable.hops (base day))) c.args.trip c.args.seconds late _ answered;
      day = same_day (ap cancelled_in c.delay.ensures.under) (c.delay.ensures.delay ∙ ap (λ (n : ℕ). left late (delaying n c.args.trip c.args.seconds late)) trips);
      under = ap (λ b. b.below) c.delay.ensures.under;
    }
