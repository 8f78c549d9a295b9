use Rattle.std.proofs.Common.{◌<◌, length, get_or, rules, sym, ap, ◌∙◌}
use Rattle.std.proofs.lemmas.List.{get_or_default}
use Rattle.fares.specs.Readings.{largest_readings}
use Rattle.rule_table.specs.OpenedTables.{rules_of}
use Rattle.rule_table.specs.Thresholds.{short_of}
use Rattle.rule_table.proofs.Thresholds.{spot_within, heeds, none_met}
use Rattle.rule_table.proofs.tariff.RuleTableTariff.next.Goals as goal

pub returns-then-is_short_of : goal.returns-then-is_short_of
returns-then-is_short_of c =
    let t = c.args.self.now in
    let inside : c.spot.result < length t.thresholds = search rules in
    let here = ap (λ k. get_or t.thresholds k largest_readings) (sym c.spot.ensures.is) ∙ get_or_default t.thresholds c.spot.result largest_readings c.index-self-spot.result inside in
    sym (none_met t.thresholds c.args.ticket c.args.gauges c.args.event (ap (λ s. short_of s c.args.gauges) here ∙ sym c.is_short_of.ensures ∙ c.if-is_short_of.true) (rules_of t) c.args.ticket
    (λ j r h e. heeds t.thresholds (rules_of t) t.heeding j r h e (spot_within r.ticket)))
