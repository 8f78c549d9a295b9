use Rattle.std.proofs.Common.{◌∙◌, refl, arith}
use Rattle.std.proofs.lemmas.Iterator.{YieldsList-from_range}
use Rattle.std.proofs.lemmas.Iterator.Search.{all_from_yields_List}
use Rattle.rule_table.proofs.Below.{all_below}
use Rattle.rule_table.proofs.bounded.all_below.Goals as goal

pub returns : goal.returns
returns g c = λ p says.
    all_from_yields_List p _ _ _ c.all.ensures.ran (YieldsList-from_range 0 c.args.bound c.args.bound refl (omega arith))
    (λ n b after called. (g.met.F.Fn.1.step_stays _ _ _ after called, says n b ((g.met.F.FnMut.1.post_iff _ _ _).1 (after, called))))
    ∙ all_below p c.args.bound
