-- Where a list first breaks the timetable rule, in the rule's plain facts.
use Rattle.std.proofs.Common.{◌≡◌, ℕ, zero, suc, ◌<◌, ◌≤◌, Bool, true, false, cond, not, List, length, take, Some, None, Option, sym, refl, ap, ◌∙◌, subst, ⊎_elim, arith}
use Rattle.std.proofs.lemmas.List.{take_all}
use Rattle.std.proofs.lemmas.Bool.{cases_lt, not-true, not-false, true≢false}
use Rattle.timetable.specs.declared.hops.Hop.{Hop}
use Rattle.timetable.specs.Rule.{keeps}
use Rattle.timetable.specs.RuleFacts.{rule_kept, rule_tested}
use Rattle.timetable.specs.Table.{least, first_break, break_of, BreaksAt, Searched, breaks}

-- no number below the least passes the test
least_above : (test : ℕ → Bool) (n k : ℕ) → k < least test n → test k ≡ false
least_above test zero k h = absurd (omega arith)
least_above test (suc n) zero h = go (test 0) h
  where
    go : (b : Bool) → 0 < cond b 0 (suc (least (λ j. test (suc j)) n)) → b ≡ false
    go true l = absurd (omega arith)
    go false l = refl
least_above test (suc n) (suc k) h = go (test 0) h (least_above (λ j. test (suc j)) n k)
  where
    go : (b : Bool) → suc k < cond b 0 (suc (least (λ j. test (suc j)) n)) → (k < least (λ j. test (suc j)) n → test (suc k) ≡ false) → test (suc k) ≡ false
    go true l below = absurd (omega arith)
    go false l below = below (omega arith)

-- where one passes, the least does
least_passes : (test : ℕ → Bool) (n : ℕ) → least test n < n → test (least test n) ≡ true
least_passes test zero h = absurd (omega arith)
least_passes test (suc n) h = go (test 0) refl h (least_passes (λ j. test (suc j)) n)
  where
    go : (b : Bool) → test 0 ≡ b → cond b 0 (suc (least (λ j. test (suc j)) n)) < suc n →
        (least (λ j. test (suc j)) n < n → test (suc (least (λ j. test (suc j)) n)) ≡ true) → test (cond b 0 (suc (least (λ j. test (suc j)) n))) ≡ true
    go true e l later = e
    go false e l later = later (omega arith)

-- what stands before the first break keeps the rule: no shorter front breaks it
front_keeps : (hs : List Hop) (p : ℕ) → p ≤ first_break hs → keeps (take p hs) ≡ true
front_keeps hs zero h = refl
front_keeps hs (suc p) h = not-false (keeps (take (suc p) hs)) (least_above (λ k. not (keeps (take (suc k) hs))) (length hs) p (omega arith))

break_within : (hs : List Hop) → keeps hs ≡ false → first_break hs < length hs
break_within hs e =
    ⊎_elim (λ l. l)
    (λ l. absurd (true≢false (sym (front_keeps hs (length hs) l) ∙ ap keeps (take_all (length hs) hs (omega arith)) ∙ e)))
    (cases_lt (first_break hs) (length hs))

breaks_there : (hs : List Hop) → keeps hs ≡ false → BreaksAt hs (first_break hs)
breaks_there hs e = record {
  kept = rule_kept (take (first_break hs) hs) (front_keeps hs (first_break hs) (omega arith));
  broken = λ r.
      true≢false (sym (rule_tested (take (suc (first_break hs)) hs) r)
      ∙ not-true (keeps (take (suc (first_break hs)) hs)) (least_passes (λ k. not (keeps (take (suc k) hs))) (length hs) (break_within hs e)));
}

-- what the search for a break found
pub searched : (hs : List Hop) (found : Option ℕ) → found ≡ break_of hs → Searched hs found
searched hs found e = subst (Searched hs) (sym e) (go (keeps hs) refl)
  where
    go : (b : Bool) → keeps hs ≡ b → Searched hs (cond b None (Some (first_break hs)))
    go true k = rule_kept hs k
    go false k = breaks (first_break hs) (breaks_there hs k)
