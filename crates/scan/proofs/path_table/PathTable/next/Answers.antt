use Rattle.std.proofs.Common.{◌≡◌, get_or, drop, Some, None, ap, ◌∙◌, drop-cons}
use Rattle.scan.specs.Chains.{slot, slots, first_in}
use Rattle.scan.proofs.PathTables.{path_from, no_path, next_found}
use Rattle.scan.proofs.path_table.PathTable.next.Goals as goal

pub returns-in-Some : goal.returns-in-Some
returns-in-Some c =
    let t = c.args.self.now in
    record {
      next = λ path here.
          ap Some c.from.ensures ∙ next_found t.paths.now t.first t.next t.tabled c.args.place path (Some c.in-Some.next) c.if-place-ge-SLOTS.false here c.in-Some.is;
    }

pub returns-in-None : goal.returns-in-None
returns-in-None c =
    let t = c.args.self.now in
    let x = get_or t.paths.now c.args.place no_path in
    record {
      next = λ path here.
          let same : x ≡ path = let e = drop-cons t.paths.now c.args.place no_path c.requires.inside in cc in
          c.seek-in-None.ensures ∙ ap (λ k. first_in path_from k slots (drop slots t.paths.now)) (c.slot-slot.ensures.is ∙ ap (λ p. slot p.from) same)
          ∙ next_found t.paths.now t.first t.next t.tabled c.args.place path None c.if-place-ge-SLOTS.false here c.in-None.is;
    }
