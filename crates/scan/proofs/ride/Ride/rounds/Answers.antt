use Rattle.std.proofs.Common.{◌≡◌, ℕ, ◌+◌, rules, subst, arith}
use Rattle.journeys.specs.Runs.{on}
use Rattle.journeys.specs.Scan.{rounds}
use Rattle.scan.specs.Stages.{stage_of, room_for}
use Rattle.scan.proofs.Stages.{comes, comes_on, ends}
use Rattle.scan.proofs.ride.Ride.rounds.Goals as goal

pub loop-round-preserved : goal.loop-round-preserved
loop-round-preserved g c = comes_on _ _ _ _ _ _ _ c.loop-round.invariant c.in_ok-round.ensures.run c.round.ensures.carried

pub returns-in_err-round-clause-run : goal.returns-in_err-round-clause-run
returns-in_err-round-clause-run g c =
    ends _ _ _ _ _ c.round.new.self c.in_err-round.field-0.0 c.from_residual.result c.loop-round.round (c.args.limit + 1) (omega arith) c.loop-round.invariant c.in_err-round.ensures.run (search rules)

-- the last round is done
pub returns-in_ok-round-clause-run : goal.returns-in_ok-round-clause-run
returns-in_ok-round-clause-run g c =
    let last : c.loop-round.round ≡ c.args.limit = omega arith in
    let hops = g.T.Timetable.hops c.args.given.now.timetable.now in
    let t = comes _ _ _ _ _ c.round.new.self _ _ c.loop-round.invariant c.in_ok-round.ensures.run in
    subst (λ (n : ℕ). rounds (g.F.Fare.model c.args.given.now.fare.now) (room_for c.args.self.now) hops c.args.given.now.paths.now.paths.now (stage_of c.args.self.now) (n + 1) ≡ on (stage_of c.round.new.self)) last t
