use Rattle.std.proofs.Common.{◌≡◌, length, sym, ap, ◌∙◌, subst}
use Rattle.std.proofs.lemmas.Bool.{cond-true, lt-ltb}
use Rattle.short_list.specs.Items.{items}
use Rattle.service_day.specs.DelayTables.{trip_of, all_late}
use Rattle.service_day.specs.Marks.{MarksOf}
use Rattle.service_day.specs.Tables.{tidy, with_entry}
use Rattle.service_day.proofs.Placed.{place_first, is_listed, written, same_marks, still_tidy_with, late_with}
use Rattle.service_day.proofs.delayed_trips.DelayedTrips.overwrite.Goals as goal

pub invariant_of-self : goal.invariant_of-self
invariant_of-self c =
    let d = c.args.self.now in
    let ds = items d.delays in
    let there = place_first trip_of c.args.delay.trip ds c.args.place c.requires.found in
    let known = is_listed trip_of c.args.delay.trip ds c.args.place c.requires.found in
    let now : items c.set.new.self ≡ with_entry trip_of c.args.delay ds =
    c.set.ensures.items ∙ cond-true _ _ _ (lt-ltb c.args.place (length ds) there.1) ∙ written trip_of c.args.delay ds c.args.place c.requires.found in
    record {
      tidy = ap (tidy trip_of) now ∙ still_tidy_with trip_of c.args.delay ds known d.tidy;
      marked = subst (λ es. MarksOf trip_of es d.marks.marks) (sym now) (same_marks trip_of c.args.delay d.marks.marks ds known d.marked);
      late = ap all_late now ∙ late_with c.args.delay c.requires.late c.requires.short ds d.late;
    }

pub returns : goal.returns
returns c =
    let ds = items c.args.self.now.delays in
    let there = place_first trip_of c.args.delay.trip ds c.args.place c.requires.found in
    c.set.ensures.items ∙ cond-true _ _ _ (lt-ltb c.args.place (length ds) there.1) ∙ written trip_of c.args.delay ds c.args.place c.requires.found
