use Rattle.std.proofs.Common.{◌≡◌, ℕ, Bool, true, false, Option, Some, None, [], ◌∷◌, ◌++◌, length, sym, refl, ◌∙◌, subst, arith}
use Rattle.std.specs.Prelude.{nat_lt, if◌then◌else◌}
use Rattle.std.proofs.lemmas.Bool.{cond-true, cond-false}
use Rattle.short_list.specs.Items.{items}
use Rattle.service_day.specs.Marks.{MarksOf}
use Rattle.service_day.specs.Tables.{itself, most_listed}
use Rattle.service_day.proofs.Marks.{one_behind}
use Rattle.service_day.proofs.Members.{still_tidy_listed}
use Rattle.service_day.proofs.cancelled_trips.CancelledTrips.list.Goals as goal

-- a place was left, or none
left : (b : Bool) (u : Unit {0}) → ◌≡◌ {A = Option (Unit {0})} (Some u) (if b then Some tt else None) → b ≡ true
left true u e = refl
left false u e = let z : ◌≡◌ {A = ℕ} 0 1 = cc in absurd (omega arith)

none_left : (b : Bool) → ◌≡◌ {A = Option (Unit {0})} None (if b then Some tt else None) → b ≡ false
none_left true e = let z : ◌≡◌ {A = ℕ} 0 1 = cc in absurd (omega arith)
none_left false e = refl

pub invariant_of-self : goal.invariant_of-self
invariant_of-self c =
    let t = c.args.self.now in
    let ts = items t.trips in
    let same : items c.push.new.self ≡ ts = c.push.ensures.items ∙ cond-false _ _ _ (none_left (nat_lt (length ts) most_listed) c.in_err-push.ensures.result) in
    record {
      tidy = still_tidy_listed itself c.args.trip ts (items c.push.new.self) _ c.push.ensures.items c.requires.number c.requires.new t.tidy;
      marked = subst (λ es. MarksOf itself es t.marks.marks) (sym same) t.marked;
    }

pub invariant_of-self-2 : goal.invariant_of-self-2
invariant_of-self-2 c =
    let t = c.args.self.now in
    let ts = items t.trips in
    let pushed : items c.push.new.self ≡ ts ++ c.args.trip ∷ [] = c.push.ensures.items ∙ cond-true _ _ _ (left (nat_lt (length ts) most_listed) _ c.in_ok-push.ensures.result) in
    record {
      tidy = still_tidy_listed itself c.args.trip ts (items c.push.new.self) _ c.push.ensures.items c.requires.number c.requires.new t.tidy;
      marked = subst (λ es. MarksOf itself es c.mark.new.self.marks) (sym pushed)
          (subst (λ ms. MarksOf itself (ts ++ c.args.trip ∷ []) ms) (sym c.mark.ensures) (one_behind itself t.marks.marks t.marks.sized ts c.args.trip t.marked));
    }
