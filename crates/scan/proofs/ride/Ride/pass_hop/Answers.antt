use Rattle.std.proofs.Common.{rules, ◌||◌, not, sym, ap, ◌∙◌}
use Rattle.journeys.specs.Runs.{on}
use Rattle.journeys.specs.Scan.{pass_hop}
use Rattle.scan.specs.Stages.{idle}
use Rattle.scan.proofs.Idle.{lets_all_off}
use Rattle.scan.proofs.ride.Ride.pass_hop.Goals as goal
use Rattle.scan.proofs.ride.Ride.pass_hop.Goals.{then-not-turn-via-then-not-turn, then-not-turn-via-else-not-turn+then-is_idle}

pub returns-then-not-turn-clause-run : goal.returns-then-not-turn-clause-run
returns-then-not-turn-clause-run g c =
    let t = c.args.turn.now in
    let r = c.args.self.now in
    lets_all_off (g.F.Fare.model c.args.fare.now) t.round t.place t.hop r
    (elim c.then-not-turn.branch [
      | then-not-turn-via-then-not-turn w ↦ ap (λ b. not b || idle t.hop r) w.if-not-turn.true
      | then-not-turn-via-else-not-turn+then-is_idle w ↦ λ v. not (w.if-not-turn.false v) || (sym w.is_idle.ensures ∙ w.if-is_idle.true) v
    ])
    ∙ ap on (sym c.empty.ensures.run)

pub returns-clause-run : goal.returns-clause-run
unfolding pass_hop
returns-clause-run g c = search rules
