-- The rule table: its limits, why one is refused, how it opens, and what it means.
-- Assumes nothing; a number that is no ticket of the table costs 0, stays itself and covers none.
use Rattle.std.specs.Prelude.{ℕ, ◌+◌, Bool, cond, ◌&&◌, ltb, leb, List, [], ◌∷◌, length, Some, None, Option, Result, nat_le, nat_lt, slice_index}
use Rattle.std.specs.List.{list_all}
use Rattle.fares.specs.Limits.{top_price}
use Rattle.fares.specs.Tariffs.{TariffModel}
use Rattle.rule_table.specs.CoverTests.{covers_ticket}
use Rattle.rule_table.specs.Refusals.{opened_unless}
use Rattle.rule_table.specs.Rules.{ticket_after}
use Rattle.rule_table.specs.Sizes.{least_tickets, top_tickets, top_rules}
use Rattle.rule_table.specs.declared.refusal.Refusal.{Refusal}
use Rattle.rule_table.specs.declared.refusal.Refusal.TheVariants.{Rest, BadRule}
use Rattle.rule_table.specs.declared.rule.Rule.{Rule}

-- every number of the list passes
abbrev pub each_of : (ℕ → Bool) → List ℕ → Bool
each_of = list_all

-- no price is above the highest
abbrev pub prices_within : List ℕ → Bool
prices_within = each_of (λ p. leb p top_price)

-- each start ticket is one of the table
abbrev pub starts_within : ℕ → List ℕ → Bool
starts_within count = each_of (λ k. ltb k count)

-- the rule leads to a higher ticket of the table that costs no less
abbrev pub rule_within : List ℕ → Rule → Bool
rule_within prices r =
    nat_lt r.ticket (length prices) && (nat_lt r.target (length prices) && (nat_lt r.ticket r.target && nat_le (slice_index prices r.ticket) (slice_index prices r.target)))

-- all but the rules themselves: their number, the tickets', the prices and the start tickets
abbrev pub rest_within : List ℕ → List Rule → List ℕ → Bool
rest_within prices rules starts =
    nat_le least_tickets (length prices) && (nat_le (length prices) top_tickets && (nat_le (length rules) top_rules && (prices_within prices && starts_within (length prices) starts)))

-- the first rule outside limits; the list begins at place i
abbrev pub first_bad : List ℕ → ℕ → List Rule → Option Refusal
first_bad prices i [] = None
first_bad prices i (r ∷ rs) = cond (rule_within prices r) (first_bad prices (i + 1) rs) (Some (BadRule i))

-- why a table is refused: for the rest, first; else for the first bad rule
abbrev pub table_refusal : List ℕ → List Rule → List ℕ → Option Refusal
table_refusal prices rules starts = cond (rest_within prices rules starts) (first_bad prices 0 rules) (Some Rest)

-- a table opens with what it is given, or is refused
abbrev pub table_opened : List ℕ → List Rule → List ℕ → Result (List ℕ × List Rule × List ℕ) (ℕ × List ℕ)
table_opened prices rules starts = opened_unless (table_refusal prices rules starts) (prices, rules, starts)

-- the start ticket of a class, the price of a ticket, the next ticket, and which ticket covers which
abbrev pub table_model : List ℕ → List Rule → List ℕ → TariffModel ℕ
table_model prices rules starts = record {
  start = λ class. slice_index starts class;
  price = λ k. slice_index prices k;
  next = ticket_after rules;
  covers = covers_ticket (length prices) rules;
}
