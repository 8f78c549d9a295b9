use Rattle.std.proofs.Common.{subst}
use Rattle.planner.specs.Lent.{memory_of}
use Rattle.planner.proofs.Faulty.{was_ok}
use Rattle.planner.proofs.SameSheets.{same_sheets}
use Rattle.planner.proofs.two_boards.compare.Goals as goal

pub returns-clause-same_offers : goal.returns-clause-same_offers
returns-clause-same_offers g c =
    let P = g.A.Inquire.promised c.args.first (memory_of c.args.lent.now) in
    let Q = g.B.Inquire.promised c.args.second (memory_of c.args.other.now) in
    let first = g.met.A.Inquire.shows c.args.first (memory_of c.args.lent.now) (memory_of c.put.new.lent) _ (subst (λ r. P r (memory_of c.put.new.lent)) (was_ok _ c.put.result c.map_err.result c.in_ok-bytes.field-0 c.map_err.ensures.cases c.in_ok-bytes.was) c.put.ensures.promise) in
    let second = g.met.B.Inquire.shows c.args.second (memory_of c.args.other.now) (memory_of c.put-2.new.lent) _ (subst (λ r. Q r (memory_of c.put-2.new.lent)) (was_ok _ c.put-2.result c.map_err-2.result c.in_ok-other_bytes.field-0 c.map_err-2.ensures.cases c.in_ok-other_bytes.was) c.put-2.ensures.promise) in
    same_sheets first second c.is_same_sheet.result c.is_same_sheet.ensures
