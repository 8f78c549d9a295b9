-- The same tests as they are run: over masks, sets of tickets as the bits of a number, one ticket at a time.
-- Assumes nothing.
use Rattle.std.specs.Prelude.{◌≡◌, ℕ, zero, suc, ◌+◌, ◌/◌, ◌%◌, ◌^◌, ◌<◌, ◌≤◌, Bool, cond, not, ◌&&◌, ◌||◌, List, ◌==◌, nat_le, nat_lt, slice_index}
use Rattle.rule_table.specs.CoverTests.{each_below, some_rule, overtakes, one_next}
use Rattle.rule_table.specs.Sizes.{top_tickets, event_count}
use Rattle.rule_table.specs.declared.rule.Rule.{Rule}

-- the mask of the numbers below the bound that pass
unfoldable pub mask_of : (ℕ → Bool) → ℕ → ℕ
mask_of p zero = 0
mask_of p (suc n) = mask_of p n + cond (p n) (2 ^ n) 0

-- the ticket is a member
abbrev pub ticket_listed : ℕ → ℕ → Bool
ticket_listed mask n = nat_lt n top_tickets && mask / 2 ^ n % 2 == 1

-- a mask for each ticket from this one on
abbrev pub MaskRowsFrom : ℕ → (ℕ → ℕ → Bool) → List ℕ → Type 0
MaskRowsFrom first p masks = (k : ℕ) → first ≤ k → k < top_tickets → slice_index masks k ≡ mask_of (p k) top_tickets

-- a mask for each ticket
abbrev pub MaskRows : (ℕ → ℕ → Bool) → List ℕ → Type 0
MaskRows p masks = (k : ℕ) → k < top_tickets → slice_index masks k ≡ mask_of (p k) top_tickets

-- the rule leads from k to a ticket whose mask has n
abbrev pub leading_on : List ℕ → ℕ → ℕ → Rule → Bool
leading_on masks k n r = r.ticket == k && ticket_listed (slice_index masks r.target) n

-- k reaches n, where the masks hold what the tickets above k reach
abbrev pub reach_step : List ℕ → List Rule → ℕ → ℕ → Bool
reach_step masks rs k n = k == n || some_rule (leading_on masks k n) rs

-- n is among what m reaches, and m never overtakes it
abbrev pub steady_step : List Rule → ℕ → ℕ → ℕ → Bool
steady_step rs reach m n = ticket_listed reach n && not (overtakes rs m n)

-- where both are reached and n is no lower, m reaches n and never overtakes it
abbrev pub in_line : ℕ → ℕ → ℕ → ℕ → Bool
in_line reach ahead m n = not (ticket_listed reach m && (ticket_listed reach n && nat_le m n)) || ticket_listed ahead n

-- m is in line with every ticket
abbrev pub free_step : ℕ → List ℕ → ℕ → Bool
free_step reach steadies m = each_below (in_line reach (slice_index steadies m) m) top_tickets

-- where m is reached, it has one next ticket at each event
abbrev pub constant_step : List Rule → ℕ → ℕ → Bool
constant_step rs reach m = not (ticket_listed reach m) || each_below (one_next rs m) event_count

-- the mask of what ticket k covers, from what it reaches
abbrev pub cover_step : ℕ → List Rule → ℕ → List ℕ → ℕ → ℕ
cover_step count rs reach steadies k =
    cond (nat_lt k count)
    (cond (each_below (free_step reach steadies) top_tickets) reach (cond (each_below (constant_step rs reach) top_tickets) (2 ^ k) 0)) 0
