use Rattle.std.proofs.Common.{rules, arith}
use Rattle.scan.proofs.Extending.{read_kept, extended_then, goes_on, stops}
use Rattle.scan.proofs.walking.walks.Goals as goal

pub loop-from-preserved : goal.loop-from-preserved
loop-from-preserved g c =
    let x = c.label.result.now.label in
    let e = read_kept c.args.labels.now c.loop-from.labels c.loop-from.from x c.loop-from.invariant.extended (omega arith) c.label.ensures.here in
    goes_on _ c.args.labels.now c.loop-from.labels c.walk_on.new.labels _ c.loop-from.from x (omega arith) e c.loop-from.invariant c.in_ok-walk_on.ensures.run c.walk_on.ensures.extended

pub returns-in_err-walk_on-clause-run : goal.returns-in_err-walk_on-clause-run
returns-in_err-walk_on-clause-run g c =
    let x = c.label.result.now.label in
    let e = read_kept c.args.labels.now c.loop-from.labels c.loop-from.from x c.loop-from.invariant.extended (omega arith) c.label.ensures.here in
    stops _ c.args.labels.now c.loop-from.labels c.walk_on.new.labels _ c.loop-from.from x c.in_err-walk_on.field-0.0 c.from_residual.result (omega arith) e c.loop-from.invariant c.in_err-walk_on.ensures.run (search rules)

pub returns-in_err-walk_on-clause-extended : goal.returns-in_err-walk_on-clause-extended
returns-in_err-walk_on-clause-extended g c = extended_then _ _ _ c.loop-from.invariant.extended c.walk_on.ensures.extended
