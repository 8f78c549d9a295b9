-- Where the rules of each ticket lie among the rules of a table.
-- Assumes nothing.
use Rattle.std.specs.Prelude.{ℕ, suc, ◌%◌, Bool, true, ◌&&◌, List, [], ◌∷◌, get_or, nat_le, nat_lt}
use Rattle.rule_table.specs.declared.rule.Rule.{Rule}
use Rattle.rule_table.specs.declared.span.Span.{Span}

-- as many as a table may have tickets
abbrev pub spots : ℕ
spots = 32

-- whose span the rules of a ticket are in
unfoldable pub spot : ℕ → ℕ
spot ticket = ticket % spots

abbrev pub no_span : Span
no_span = record { begin = 0; end = 0 }

-- the rule at place i lies in its ticket's span
abbrev pub in_span : List Span → ℕ → Rule → Bool
in_span spans i r = nat_le (get_or spans (spot r.ticket) no_span).begin i && nat_lt i (get_or spans (spot r.ticket) no_span).end

-- each rule does; the first is that at place i
abbrev pub spanned : List Span → ℕ → List Rule → Bool
spanned spans i [] = true
spanned spans i (r ∷ rs) = in_span spans i r && spanned spans (suc i) rs
