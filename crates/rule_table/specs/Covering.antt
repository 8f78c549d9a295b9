-- Which tickets of a rule table cover which: free tickets cover all that they reach, fixed ones themselves, others none.
-- Assumes nothing.
use Rattle.std.specs.Prelude.{◌≡◌, ℕ, ◌<◌, ◌⊎◌, List}
use Rattle.fares.specs.Readings.{AtMost}
use Rattle.fares.specs.declared.gauges.Gauges.{Gauges}
use Rattle.rule_table.specs.Rules.{ticket_after, Leads, Reaches}
use Rattle.rule_table.specs.Sizes.{event_count}
use Rattle.rule_table.specs.declared.rule.Rule.{Rule}

-- all that the ticket reaches is one chain, along which order lasts
pub record Free (rs : List Rule) (k : ℕ) : Type 0 where
  -- the reached tickets, in rising order, each have a rule to the next
  pub chain : (m n : ℕ) → Reaches rs k m → Reaches rs k n → m < n
      → ((x : ℕ) → m < x → x < n → Reaches rs k x → ⊥) → Leads rs m n
  -- what is reached stays reached, at gauges no lower
  pub keeps : (m n : ℕ) → Reaches rs k m → Reaches rs m n → (g h : Gauges) → AtMost g h → (e : ℕ) → e < event_count
      → Reaches rs (ticket_after rs m g e) (ticket_after rs n h e)

-- not free, and no gauge makes a difference to what comes next
pub record Fixed (rs : List Rule) (k : ℕ) : Type 0 where
  pub not_free : Free rs k → ⊥
  pub one_next : (m : ℕ) → Reaches rs k m → (e : ℕ) → e < event_count → (g h : Gauges) → ticket_after rs m g e ≡ ticket_after rs m h e

-- the one ticket of a table of so many covers the other
abbrev pub Covers : ℕ → List Rule → ℕ → ℕ → Type 0
Covers count rs k l = (k < count) × ((Free rs k × Reaches rs k l) ⊎ (Fixed rs k × (k ≡ l)))
