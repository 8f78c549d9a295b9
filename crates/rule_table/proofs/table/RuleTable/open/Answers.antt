use Rattle.std.proofs.Common.{◌≡◌, Bool, true, false, cond, None, Some, Ok, Err, Option, Result, refl, sym, ◌∙◌}
use Rattle.rule_table.specs.Refusals.{unless_refused}
use Rattle.rule_table.specs.TableLaws.{rising_from}
use Rattle.rule_table.specs.declared.refusal.Refusal.{Refusal}
use Rattle.rule_table.specs.declared.refusal.Refusal.TheVariants.{Rest}
use Rattle.rule_table.proofs.table.RuleTable.open.Goals as goal

rest_held : (b : Bool) (u : Unit {0}) → cond {A = Result (Unit {0}) Refusal} b (Ok tt) (Err Rest) ≡ Ok u → b ≡ true
rest_held true u e = refl
rest_held false u e = cc

none_refused : (cause : Option Refusal) (u : Unit {0}) → unless_refused cause ≡ Ok u → cause ≡ None
none_refused None u e = refl
none_refused (Some r) u e = cc

pub cover_masks-requires : goal.cover_masks-requires
cover_masks-requires c =
    rising_from c.args.prices.now c.args.rules.now c.args.starts
    (rest_held _ c.in_ok-check_rest.field-0 (sym c.check_rest.ensures ∙ c.in_ok-check_rest.was))
    (none_refused _ c.in_ok-check_rules.field-0 (sym c.check_rules.ensures ∙ c.in_ok-check_rules.was))
