use Rattle.std.proofs.Common.{◌≡◌, [], ◌∷◌, ap, ◌∙◌}
use Rattle.rule_table.specs.RuleTables.{table_opened}
use Rattle.ferry_cases.specs.FerryBoard.{ferry_prices, ferry_rules, ferry_starts}
use Rattle.ferry_cases.proofs.Opened.{ferry_opened}
use Rattle.ferry_cases.proofs.board.tariff.Goals as goal

pub returns-clause-tariff : goal.returns-clause-tariff
returns-clause-tariff c =
    let rules : c.rule.result ∷ c.rule-2.result ∷ c.rule-3.result ∷ [] ≡ ferry_rules = λ v. c.rule.ensures v ∷ c.rule-2.ensures v ∷ c.rule-3.ensures v ∷ [] in
    ferry_opened c.in_ok-open.field-0 c.in_ok-table.table c.in_ok-open.ensures.opened (c.in_ok-table.ensures.opened ∙ ap (λ r. table_opened ferry_prices r ferry_starts) rules)
