use Rattle.std.proofs.Common.{cond, [], replicate, sym, ap, subst, ◌∙◌, arith}
use Rattle.std.specs.Prelude.{min}
use Rattle.std.proofs.lemmas.List.{length-set, take_all, get_or_default}
use Rattle.fares.specs.declared.gauges.Gauges.{Gauges}
use Rattle.fares.specs.Readings.{largest_readings}
use Rattle.rule_table.specs.Spans.{spots}
use Rattle.rule_table.specs.Thresholds.{asks_metres, asks_stops, asks_zones, asks_level, Thresholds}
use Rattle.rule_table.proofs.Thresholds.{no_thresholds, one_least}
use Rattle.rule_table.proofs.threshold.thresholds_of.Goals as goal

pub loop-rule-init : goal.loop-rule-init
loop-rule-init c = subst (λ (g : Gauges). Thresholds (replicate spots g) []) (sym c.largest-thresholds.ensures) no_thresholds

pub loop-rule-preserved : goal.loop-rule-preserved
loop-rule-preserved c =
    let ts = c.loop-rule.thresholds in
    let rs = c.args.rules.now in
    let n = c.loop-rule.rule-index in
    let r = c.rule-item.result in
    let s = c.spot-spot.result in
    let old = c.index-thresholds-spot.result in
    let new = c.lowered.result in
    let before = c.loop-rule.invariant in
    let held = c.index-thresholds-spot.is ∙ get_or_default ts s old largest_readings (omega (arith, c.spot-spot.ensures.within, before.sized)) in
    let more = c.lowered.ensures in
    record {
      sized = length-set ts s new ∙ before.sized;
      metres = one_least (λ g. g.metres) asks_metres ts rs n r s old new before.sized c.spot-spot.ensures.within c.loop-rule-test.true c.rule-item.is c.spot-spot.ensures.is held (more.metres ∙ ap (λ (g : Gauges). cond (asks_metres r.minima) (min g.metres r.minima.metres) g.metres) (sym c.index-thresholds-spot.is)) before.metres;
      stops = one_least (λ g. g.stops) asks_stops ts rs n r s old new before.sized c.spot-spot.ensures.within c.loop-rule-test.true c.rule-item.is c.spot-spot.ensures.is held (more.stops ∙ ap (λ (g : Gauges). cond (asks_stops r.minima) (min g.stops r.minima.stops) g.stops) (sym c.index-thresholds-spot.is)) before.stops;
      zones = one_least (λ g. g.zones) asks_zones ts rs n r s old new before.sized c.spot-spot.ensures.within c.loop-rule-test.true c.rule-item.is c.spot-spot.ensures.is held (more.zones ∙ ap (λ (g : Gauges). cond (asks_zones r.minima) (min g.zones r.minima.zones) g.zones) (sym c.index-thresholds-spot.is)) before.zones;
      level = one_least (λ g. g.level) asks_level ts rs n r s old new before.sized c.spot-spot.ensures.within c.loop-rule-test.true c.rule-item.is c.spot-spot.ensures.is held (more.level ∙ ap (λ (g : Gauges). cond (asks_level r.minima) (min g.level r.minima.level) g.level) (sym c.index-thresholds-spot.is)) before.level;
    }

pub returns : goal.returns
returns c = subst (Thresholds c.loop-rule.thresholds) (take_all c.loop-rule.rule-index c.args.rules.now c.loop-rule-test.false) c.loop-rule.invariant
