-- What an opened table holds: prices, rules and start tickets.
-- Assumes nothing.
use Rattle.std.specs.Prelude.{ℕ, List, length}
use Rattle.fares.specs.Tariffs.{TariffModel}
use Rattle.rule_table.specs.RuleTables.{table_model}
use Rattle.rule_table.specs.declared.rule.Rule.{Rule}
use Rattle.rule_table.specs.declared.table.RuleTable.{RuleTable}
use Rattle.short_list.specs.Items.{items}

-- the price of each ticket
abbrev pub prices_of : RuleTable → List ℕ
prices_of t = items t.prices

-- how many tickets there are
abbrev pub tickets_of : RuleTable → ℕ
tickets_of t = length (prices_of t)

-- the rules
abbrev pub rules_of : RuleTable → List Rule
rules_of t = items t.rules

-- the prices, the rules and the start tickets
abbrev pub parts_of : RuleTable → List ℕ × List Rule × List ℕ
parts_of t = (prices_of t, rules_of t, t.starts)

-- the tariff that a table is
abbrev pub table_of : RuleTable → TariffModel ℕ
table_of t = table_model (prices_of t) (rules_of t) t.starts
