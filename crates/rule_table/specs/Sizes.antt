-- How large a rule table may be, and how many events there are.
-- Assumes nothing.
use Rattle.std.specs.Prelude.{ℕ}

-- the least number of tickets
abbrev pub least_tickets : ℕ
least_tickets = 1

-- the greatest number of tickets
abbrev pub top_tickets : ℕ
top_tickets = 32

-- the greatest number of rules
abbrev pub top_rules : ℕ
top_rules = 128

-- events are 0 to 15: there are so many
abbrev pub event_count : ℕ
event_count = 16
