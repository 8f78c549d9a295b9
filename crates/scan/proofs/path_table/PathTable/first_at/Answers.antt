use Rattle.std.proofs.Common.{Some, None, ap, ◌∙◌}
use Rattle.scan.specs.Chains.{first_in}
use Rattle.scan.proofs.PathTables.{path_from, first_found}
use Rattle.scan.proofs.path_table.PathTable.first_at.Goals as goal

pub returns-in-Some : goal.returns-in-Some
returns-in-Some c =
    let t = c.args.self.now in
    ap Some c.from.ensures ∙ first_found t.paths.now t.first t.next t.tabled c.slot-slot.result (Some c.in-Some.place) c.slot-slot.ensures.within c.in-Some.is
    ∙ ap (λ k. first_in path_from k 0 t.paths.now) c.slot-slot.ensures.is

pub returns-in-None : goal.returns-in-None
returns-in-None c =
    let t = c.args.self.now in
    c.seek.ensures ∙ first_found t.paths.now t.first t.next t.tabled c.slot-slot.result None c.slot-slot.ensures.within c.in-None.is
    ∙ ap (λ k. first_in path_from k 0 t.paths.now) c.slot-slot.ensures.is
