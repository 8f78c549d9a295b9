use Rattle.std.proofs.Common.{length, sym, ◌∙◌, arith, length-take}
use Rattle.std.proofs.Math.Seq.{take-set-lt}
use Rattle.std.proofs.lemmas.Bool.{cond-true, lt-ltb}
use Rattle.short_list.specs.Items.{items}
use Rattle.short_list.proofs.list.ShortList.set.Goals as goal

pub returns-clause-items : goal.returns-clause-items
returns-clause-items g c =
    let l = c.args.self.now in
    take-set-lt l.used l.places c.args.place c.args.item (omega arith)
    ∙ sym (cond-true _ _ _ (lt-ltb c.args.place (length (items l)) (omega (arith, length-take l.used l.places))))
