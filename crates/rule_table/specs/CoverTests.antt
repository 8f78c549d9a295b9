-- The finite tests by which a table decides, once and when it opens, which tickets cover which.
-- Assumes nothing; they are shut (`unfoldable`), since 32 tickets written out are long.
use Rattle.std.specs.Prelude.{ℕ, zero, suc, Bool, true, false, cond, not, ◌&&◌, ◌||◌, List, ◌==◌, nat_le, nat_lt}
use Rattle.std.specs.List.{list_any}
use Rattle.fares.specs.Readings.{lowest_readings, largest_readings}
use Rattle.rule_table.specs.Rules.{event_among, ticket_after}
use Rattle.rule_table.specs.Sizes.{top_tickets, event_count}
use Rattle.rule_table.specs.declared.rule.Rule.{Rule}

-- every number below the bound passes
unfoldable pub each_below : (ℕ → Bool) → ℕ → Bool
each_below p zero = true
each_below p (suc n) = p n && each_below p n

-- some number below the bound passes
unfoldable pub some_below : (ℕ → Bool) → ℕ → Bool
some_below p zero = false
some_below p (suc n) = p n || some_below p n

-- some rule passes
abbrev pub some_rule : (Rule → Bool) → List Rule → Bool
some_rule = list_any

-- reached by at most so many rules
unfoldable pub reaches_in : List Rule → ℕ → ℕ → ℕ → Bool
reaches_in rs zero k l = k == l
reaches_in rs (suc d) k l = k == l || some_rule (λ r. (r.ticket == k) && reaches_in rs d r.target l) rs

-- reached: each rule leaves a ticket behind, so there are never more rules than tickets
unfoldable pub reaches_ticket : List Rule → ℕ → ℕ → Bool
reaches_ticket rs k l = reaches_in rs top_tickets k l

-- at the event, and at its own minima, the rule leads on past all that n comes to
abbrev pub outrunning_at : List Rule → Rule → ℕ → ℕ → Bool
outrunning_at rs r n e = event_among r.events e && nat_lt (ticket_after rs n r.minima e) r.target

-- the rule is one of m, and outruns n at some event
abbrev pub overtaking_by : List Rule → ℕ → ℕ → Rule → Bool
overtaking_by rs m n r = r.ticket == m && some_below (outrunning_at rs r n) event_count

-- some rule takes m past n
abbrev pub overtakes : List Rule → ℕ → ℕ → Bool
overtakes rs m n = some_rule (overtaking_by rs m n) rs

-- m reaches n and never overtakes it
unfoldable pub steady : List Rule → ℕ → ℕ → Bool
steady rs m n = reaches_ticket rs m n && not (overtakes rs m n)

-- all that k reaches is one rising line, along which none overtakes another
unfoldable pub is_free : List Rule → ℕ → Bool
is_free rs k =
    each_below (λ m. each_below (λ n. not (reaches_ticket rs k m && (reaches_ticket rs k n && nat_le m n)) || steady rs m n) top_tickets) top_tickets

-- next tickets only rise with the gauges, so the lowest and the largest readings speak for all
abbrev pub one_next : List Rule → ℕ → ℕ → Bool
one_next rs m e = ticket_after rs m lowest_readings e == ticket_after rs m largest_readings e

-- each ticket that k reaches has, at each event, one next ticket
unfoldable pub is_constant : List Rule → ℕ → Bool
is_constant rs k = each_below (λ m. not (reaches_ticket rs k m) || each_below (one_next rs m) event_count) top_tickets

-- the one ticket of a table of so many covers the other
unfoldable pub covers_ticket : ℕ → List Rule → ℕ → ℕ → Bool
covers_ticket count rs k l = nat_lt k count && cond (is_free rs k) (reaches_ticket rs k l) (is_constant rs k && k == l)
