-- The first bad rule is the one at the first place at which a rule is not within limits.
use Rattle.std.proofs.Common.{◌≡◌, ℕ, ◌+◌, Bool, true, false, cond, not, List, [], ◌∷◌, Some, None, refl, sym, ap, ◌∙◌}
use Rattle.std.specs.Prelude.{option_map}
use Rattle.std.specs.List.{position_from}
use Rattle.rule_table.specs.RuleTables.{rule_within, first_bad}
use Rattle.rule_table.specs.declared.refusal.Refusal.TheVariants.{BadRule}
use Rattle.rule_table.specs.declared.rule.Rule.{Rule}

bad_place : (prices : List ℕ) (i : ℕ) (rs : List Rule) → option_map BadRule (position_from (λ r. not (rule_within prices r)) i rs) ≡ first_bad prices i rs
bad_place prices i [] = refl
bad_place prices i (r ∷ rs) = at_rule (rule_within prices r) (bad_place prices (i + 1) rs)
  where
    at_rule : (b : Bool) → option_map BadRule (position_from (λ r. not (rule_within prices r)) (i + 1) rs) ≡ first_bad prices (i + 1) rs
        → option_map BadRule (cond (not b) (Some i) (position_from (λ r. not (rule_within prices r)) (i + 1) rs)) ≡ cond b (first_bad prices (i + 1) rs) (Some (BadRule i))
    at_rule true rest = rest
    at_rule false rest = refl

pub no_bad : (prices : List ℕ) (rs : List Rule) → position_from (λ r. not (rule_within prices r)) 0 rs ≡ None → first_bad prices 0 rs ≡ None
no_bad prices rs e = sym (bad_place prices 0 rs) ∙ ap (option_map BadRule) e

pub bad_at : (prices : List ℕ) (rs : List Rule) (place : ℕ) → position_from (λ r. not (rule_within prices r)) 0 rs ≡ Some place → first_bad prices 0 rs ≡ Some (BadRule place)
bad_at prices rs place e = sym (bad_place prices 0 rs) ∙ ap (option_map BadRule) e
