-- The ferry's rules, and its tariff from what its table and its surcharge open with.
use Rattle.std.proofs.Common.{◌≡◌, ℕ, ◌≤◌, min, List, Ok, Result, ap, ◌∙◌, arith}
use Rattle.fares.specs.Limits.{top_reading}
use Rattle.measures.specs.Shown.{readings}
use Rattle.measures.proofs.SameGauges.{same_gauges}
use Rattle.fares.specs.declared.surcharges.Surcharge.{Surcharge}
use Rattle.fares.specs.Surcharges.{surcharge_model}
use Rattle.rule_table.specs.declared.rule.Rule.{Rule}
use Rattle.rule_table.specs.declared.table.RuleTable.{RuleTable}
use Rattle.rule_table.specs.OpenedTables.{parts_of, table_of}
use Rattle.rule_table.specs.RuleTables.{table_model}
use Rattle.ferry_cases.specs.FerryBoard.{rule, ferry_prices, ferry_rules, ferry_starts, ferry_tariff}

pub ferry_opened : (t : Surcharge RuleTable) (table : RuleTable) → ◌≡◌ {A = Result (RuleTable × ℕ × ℕ) (ℕ × List ℕ)} (Ok (t.below, t.event, t.extra)) (Ok (table, 2, 150))
    → ◌≡◌ {A = Result (List ℕ × List Rule × List ℕ) (ℕ × List ℕ)} (Ok (parts_of table)) (Ok (ferry_prices, ferry_rules, ferry_starts))
    → surcharge_model t.event t.extra (table_of t.below) ≡ ferry_tariff
unfolding ferry_tariff
ferry_opened t table e f =
    let a : ◌≡◌ {A = RuleTable × ℕ × ℕ} (t.below, t.event, t.extra) (table, 2, 150) = cc in
    let b : ◌≡◌ {A = List ℕ × List Rule × List ℕ} (parts_of table) (ferry_prices, ferry_rules, ferry_starts) = cc in
    ap (λ p. surcharge_model p.1 p.2 (table_of p.0)) a ∙ ap (λ p. surcharge_model 2 150 (table_model p.0 p.1 p.2)) b

pub rule_made : (r : Rule) (ticket target zones : ℕ) → zones ≤ top_reading → r.ticket ≡ ticket → r.target ≡ target → r.events ≡ 65535 → r.minima.metres ≡ 0 → r.minima.stops ≡ 0 → r.minima.zones ≡ zones → r.minima.level ≡ 0
    → r ≡ rule ticket target zones
rule_made r ticket target zones h a b c m s z l =
    let held : r.minima.zones ≡ min zones top_reading = omega (arith, z, h) in
    let minima : r.minima ≡ readings 0 0 zones 0 = same_gauges r.minima (readings 0 0 zones 0) m s held l in
    λ v. record { ticket = a v; target = b v; events = c v; minima = minima v }
