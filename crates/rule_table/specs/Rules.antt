-- Rules from ticket to ticket: when one is met, the next ticket, and which tickets a ticket reaches.
-- Assumes nothing.
use Rattle.std.specs.Prelude.{◌≡◌, ℕ, ◌/◌, ◌%◌, ◌^◌, ◌<◌, ◌≤◌, max, fold, Bool, true, cond, ◌&&◌, ◌⊎◌, List, [], ◌∷◌, ◌==◌, nat_le, nat_lt}
use Rattle.fares.specs.declared.gauges.Gauges.{Gauges}
use Rattle.rule_table.specs.Sizes.{event_count}
use Rattle.rule_table.specs.declared.rule.Rule.{Rule}

-- a set of events as the bits of a number; what is no event is in no set
abbrev pub event_among : ℕ → ℕ → Bool
event_among events e = nat_lt e event_count && events / 2 ^ e % 2 == 1

-- each gauge reaches its minimum
abbrev pub at_least : Gauges → Gauges → Bool
at_least minima g =
    nat_le minima.metres g.metres && (nat_le minima.stops g.stops && (nat_le minima.zones g.zones && nat_le minima.level g.level))

-- the rule is one of the ticket, the event is in its set, and each gauge reaches its minimum
abbrev pub met : Rule → ℕ → Gauges → ℕ → Bool
met r k g e = r.ticket == k && (event_among r.events e && at_least r.minima g)

-- what is held once a rule was looked at: the higher of it and the rule's target, where the rule is met
abbrev pub raised_by : Rule → ℕ → Gauges → ℕ → ℕ → ℕ
raised_by r k g e held = cond (met r k g e) (max held r.target) held

-- the highest target of a met rule of the ticket, or what is held so far
abbrev pub next_from : List Rule → ℕ → Gauges → ℕ → ℕ → ℕ
next_from rs k g e held = fold (λ (h : ℕ) (r : Rule). raised_by r k g e h) held rs

-- the next ticket, which is the ticket itself where no rule is met
abbrev pub ticket_after : List Rule → ℕ → Gauges → ℕ → ℕ
ticket_after rs k g e = next_from rs k g e k

-- some rule of the list
abbrev pub SomeRule : (Rule → Type 0) → List Rule → Type 0
SomeRule P [] = ⊥
SomeRule P (r ∷ rs) = P r ⊎ SomeRule P rs

-- a rule leads from the one ticket to the other
abbrev pub Leads : List Rule → ℕ → ℕ → Type 0
Leads rs k p = SomeRule (λ r. (r.ticket ≡ k) × (r.target ≡ p)) rs

-- every rule leads up, to a ticket below the bound
abbrev pub RulesRise : ℕ → List Rule → Type 0
RulesRise bound rs = (k p : ℕ) → Leads rs k p → (k < p) × (p < bound)

-- the ticket itself, or one that rules lead to
pub data Reaches (rs : List Rule) : ℕ → ℕ → Type 0 where
  stays : {k : ℕ} → Reaches rs k k
  goes : {k p l : ℕ} → Leads rs k p → Reaches rs p l → Reaches rs k l

-- the next ticket in plain words: the ticket itself where no rule is met, else the highest that a met rule names
pub record IsNext (rs : List Rule) (k : ℕ) (g : Gauges) (e n : ℕ) : Type 0 where
  pub stays : (SomeRule (λ r. met r k g e ≡ true) rs → ⊥) → n ≡ k
  pub named : SomeRule (λ r. met r k g e ≡ true) rs → SomeRule (λ r. (met r k g e ≡ true) × (r.target ≡ n)) rs
  pub highest : (t : ℕ) → SomeRule (λ r. (met r k g e ≡ true) × (r.target ≡ t)) rs → t ≤ n
