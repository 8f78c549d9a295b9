-- An opened table is within limits, and its masks are right: its ghost fields say so.
-- Assumes nothing.
use Rattle.std.specs.Prelude.{◌≡◌, ℕ, ◌<◌, ◌≤◌, Bool, ◌&&◌, Decides, nat_lt, slice_index}
use Rattle.std.proofs.Common.{⊎_elim, sym, ap, ◌∙◌, arith}
use Rattle.std.proofs.lemmas.Bool.{cases_lt, lt-ltb, le-ltb}
use Rattle.fares.specs.declared.gauges.Gauges.{Gauges}
use Rattle.rule_table.specs.CoverTests.{covers_ticket}
use Rattle.rule_table.specs.Covering.{Covers}
use Rattle.rule_table.specs.Masks.{ticket_listed}
use Rattle.rule_table.specs.OpenedTables.{tickets_of, prices_of, rules_of}
use Rattle.rule_table.specs.declared.table.RuleTable.{RuleTable}
use Rattle.rule_table.specs.Rules.{ticket_after, IsNext}
use Rattle.rule_table.specs.TableLaws.{next_is, covers?, Sound, sound_from, covers_read, covers_none}

pub sound_table : (t : RuleTable) → Sound (prices_of t) (rules_of t)
sound_table t = sound_from (prices_of t) (rules_of t) t.starts t.opened

-- the masks tell which ticket covers which
pub covers_marked : (t : RuleTable) (k l : ℕ) → (nat_lt k (tickets_of t) && ticket_listed (slice_index t.covered k) l) ≡ covers_ticket (tickets_of t) (rules_of t) k l
covers_marked t k l =
    ⊎_elim {C = (nat_lt k (tickets_of t) && marked) ≡ covers_ticket (tickets_of t) (rules_of t) k l} low high (cases_lt k (tickets_of t))
  where
    marked : Bool
    marked = ticket_listed (slice_index t.covered k) l

    low : k < tickets_of t → (nat_lt k (tickets_of t) && marked) ≡ covers_ticket (tickets_of t) (rules_of t) k l
    low h =
        ap (λ (b : Bool). b && marked) (lt-ltb k (tickets_of t) h)
        ∙ covers_read (prices_of t) (rules_of t) (sound_table t) t.covered t.decided k l (omega (arith, (sound_table t).few))

    high : tickets_of t ≤ k → (nat_lt k (tickets_of t) && marked) ≡ covers_ticket (tickets_of t) (rules_of t) k l
    high h =
        ap (λ (b : Bool). b && marked) (le-ltb k (tickets_of t) h)
        ∙ sym (covers_none (tickets_of t) (rules_of t) k l h)

-- the next ticket is what it is said to be
pub next_named : (t : RuleTable) (k : ℕ) (g : Gauges) (e : ℕ) → IsNext (rules_of t) k g e (ticket_after (rules_of t) k g e)
next_named t = next_is (prices_of t) (rules_of t) (sound_table t)

-- the test decides which ticket covers which
pub covers_decided : (t : RuleTable) (k l : ℕ) → Decides (covers_ticket (tickets_of t) (rules_of t) k l) (Covers (tickets_of t) (rules_of t) k l)
covers_decided t = covers? (prices_of t) (rules_of t) (sound_table t)
