use Rattle.std.proofs.Common.{◌∙◌, refl, arith}
use Rattle.std.proofs.lemmas.Iterator.{YieldsList-from_range}
use Rattle.std.proofs.lemmas.Iterator.Search.{any_from_yields_List}
use Rattle.rule_table.proofs.Below.{any_below}
use Rattle.rule_table.proofs.bounded.any_below.Goals as goal

pub returns : goal.returns
returns g c = λ p says.
    any_from_yields_List p _ _ _ c.any.ensures.ran (YieldsList-from_range 0 c.args.bound c.args.bound refl (omega arith))
    (λ n b after called. (g.met.F.Fn.1.step_stays _ _ _ after called, says n b ((g.met.F.FnMut.1.post_iff _ _ _).1 (after, called))))
    ∙ any_below p c.args.bound
