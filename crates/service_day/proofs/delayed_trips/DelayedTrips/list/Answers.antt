use Rattle.std.proofs.Common.{◌≡◌, [], ◌∷◌, ◌++◌, length, sym, ◌∙◌, subst}
use Rattle.std.proofs.lemmas.Bool.{cond-true, lt-ltb}
use Rattle.short_list.specs.Items.{items}
use Rattle.service_day.specs.DelayTables.{trip_of}
use Rattle.service_day.specs.Marks.{MarksOf}
use Rattle.service_day.specs.Tables.{most_listed}
use Rattle.service_day.proofs.Marks.{one_behind}
use Rattle.service_day.proofs.Members.{still_tidy_listed}
use Rattle.service_day.proofs.Outcomes.{late_listed_push}
use Rattle.service_day.proofs.delayed_trips.DelayedTrips.list.Goals as goal

pub invariant_of-self : goal.invariant_of-self
invariant_of-self c =
    let d = c.args.self.now in
    let ds = items d.delays in
    let pushed : items c.push.new.self ≡ ds ++ c.args.delay ∷ [] = c.push.ensures.items ∙ cond-true _ _ _ (lt-ltb (length ds) most_listed c.requires.room) in
    record {
      tidy = still_tidy_listed trip_of c.args.delay ds (items c.push.new.self) _ c.push.ensures.items c.requires.number c.requires.new d.tidy;
      marked = subst (λ es. MarksOf trip_of es c.mark.new.self.marks) (sym pushed)
          (subst (λ ms. MarksOf trip_of (ds ++ c.args.delay ∷ []) ms) (sym c.mark.ensures) (one_behind trip_of d.marks.marks d.marks.sized ds c.args.delay d.marked));
      late = late_listed_push c.args.delay ds (items c.push.new.self) _ c.push.ensures.items c.requires.late c.requires.short d.late;
    }
