-- The tests as they are run, over masks, give the rows of the tests as they are meant.
use Rattle.std.proofs.Common.{◌≡◌, ℕ, zero, suc, ◌+◌, ◌^◌, ◌<◌, Bool, true, false, cond, not, ◌&&◌, ◌||◌, eqb, ltb, leb, List, get_or, Decides, sym, refl, ap, ◌∙◌, subst, ap₂, ⊎_elim, arith}
use Rattle.std.proofs.lemmas.Bool.{or_cases, or_left, or_right, eqb-true, eq-eqb}
use Rattle.std.proofs.lemmas.Bool.Decides.{same_from_decides, Decides-and, Decides-eqb}
use Rattle.rule_table.specs.CoverTests.{each_below, some_rule, reaches_ticket, overtakes, steady, is_free, one_next, is_constant, covers_ticket}
use Rattle.rule_table.specs.Masks.{mask_of, ticket_listed, MaskRows, MaskRowsFrom}
use Rattle.rule_table.specs.Masks.{leading_on, reach_step, steady_step, in_line, free_step, constant_step, cover_step}
use Rattle.rule_table.specs.Rules.{SomeRule, Leads, RulesRise, Reaches}
use Rattle.rule_table.specs.Rules.Reaches.{stays, goes}
use Rattle.rule_table.specs.declared.rule.Rule.{Rule}
use Rattle.rule_table.specs.Bounded.{decides_rule}
use Rattle.rule_table.specs.MaskBits.{mask_ext, has_mask, mask_none, mask_one}
use Rattle.rule_table.specs.Reaching.{decides_itself, decides_reaches, lead_to, lead_from, reaches_split}

all_ext : (p q : ℕ → Bool) (n : ℕ) → ((l : ℕ) → l < n → p l ≡ q l) → each_below p n ≡ each_below q n
unfolding each_below
all_ext p q zero h = refl
all_ext p q (suc n) h = ap₂ ◌&&◌ (h n (omega arith)) (all_ext p q n (λ l i. h l (omega arith)))

-- what a row's mask has is what the row passes
row_has : (p : ℕ → Bool) (mask n : ℕ) → mask ≡ mask_of p 32 → n < 32 → ticket_listed mask n ≡ p n
row_has p mask n is h = ap (λ (x : ℕ). ticket_listed x n) is ∙ has_mask p n h

module _ (rs : List Rule) where
  -- The row of k from the rows above it. A rule of k leads up, so the row of its target is known; k reaches n when they are
  -- the same, or when a rule of k leads to a ticket whose row has n.
  pub reach_row : RulesRise 32 rs → (masks : List ℕ) (k : ℕ) → MaskRowsFrom (k + 1) (reaches_ticket rs) masks
      → mask_of (reach_step masks rs k) 32 ≡ mask_of (reaches_ticket rs k) 32
  reach_row rising masks k above = mask_ext (reach_step masks rs k) (reaches_ticket rs k) 32 (λ n h. same_from_decides _ _ (there n h, back n h) (reach? k n))
    where
      reach? : (k l : ℕ) → Decides (reaches_ticket rs k l) (Reaches rs k l)
      reach? = decides_reaches 32 rs rising (omega arith)

      leads? : (n : ℕ) → Decides (some_rule (leading_on masks k n) rs) (SomeRule (λ r. (r.ticket ≡ k) × (ticket_listed (get_or masks r.target 0) n ≡ true)) rs)
      leads? n = decides_rule _ _ (λ r. Decides-and (eqb r.ticket k) (ticket_listed (get_or masks r.target 0) n) (Decides-eqb r.ticket k) (decides_itself (ticket_listed (get_or masks r.target 0) n))) rs

      known : (p n : ℕ) → Leads rs k p → n < 32 → ticket_listed (get_or masks p 0) n ≡ reaches_ticket rs p n
      known p n s h = let u = rising k p s in row_has (reaches_ticket rs p) (get_or masks p 0) n (above p (omega (arith, u.0)) u.1) h

      there : (n : ℕ) → n < 32 → reach_step masks rs k n ≡ true → Reaches rs k n
      there n h t =
          ⊎_elim {C = Reaches rs k n} (λ e. subst (λ (x : ℕ). Reaches rs k x) (eqb-true k n e) stays)
          (λ e. let s = lead_to (λ p. ticket_listed (get_or masks p 0) n ≡ true) rs k ((leads? n).0 e) in
          goes s.1 ((reach? s.0 n).0 (sym (known s.0 n s.1 h) ∙ s.2)))
          (or_cases (eqb k n) (some_rule (leading_on masks k n) rs) t)

      back : (n : ℕ) → n < 32 → Reaches rs k n → reach_step masks rs k n ≡ true
      back n h r =
          ⊎_elim {C = reach_step masks rs k n ≡ true} (λ e. or_left (eqb k n) _ (eq-eqb k n e))
          (λ s. or_right (eqb k n) _ ((leads? n).1 (lead_from (λ p. ticket_listed (get_or masks p 0) n ≡ true) rs k s.0 s.1 (known s.0 n s.1 h ∙ (reach? s.0 n).1 s.2))))
          (reaches_split r)

  pub steady_row : (reach m : ℕ) → reach ≡ mask_of (reaches_ticket rs m) 32 → mask_of (steady_step rs reach m) 32 ≡ mask_of (steady rs m) 32
  unfolding steady
  steady_row reach m is =
      mask_ext (steady_step rs reach m) (steady rs m) 32 (λ n h. ap (λ (x : Bool). x && not (overtakes rs m n)) (row_has (reaches_ticket rs m) reach n is h))

  module _ (reach : ℕ) (steadies : List ℕ) (k : ℕ) (is : reach ≡ mask_of (reaches_ticket rs k) 32) (are : MaskRows (steady rs) steadies) where
    free_row : each_below (free_step reach steadies) 32 ≡ is_free rs k
    unfolding is_free
    free_row = all_ext (free_step reach steadies) (λ m. each_below (λ n. not (reaches_ticket rs k m && (reaches_ticket rs k n && leb m n)) || steady rs m n) 32) 32
        (λ m hm. all_ext (in_line reach (get_or steadies m 0) m) (λ n. not (reaches_ticket rs k m && (reaches_ticket rs k n && leb m n)) || steady rs m n) 32
        (λ n hn. ap₂ (λ (x y : Bool). not x || y)
        (ap₂ (λ (x y : Bool). x && (y && leb m n)) (row_has (reaches_ticket rs k) reach m is hm) (row_has (reaches_ticket rs k) reach n is hn))
        (row_has (steady rs m) (get_or steadies m 0) n (are m hm) hn)))

    constant_row : each_below (constant_step rs reach) 32 ≡ is_constant rs k
    unfolding is_constant
    constant_row = all_ext (constant_step rs reach) (λ m. not (reaches_ticket rs k m) || each_below (one_next rs m) 16) 32
        (λ m hm. ap (λ (x : Bool). not x || each_below (one_next rs m) 16) (row_has (reaches_ticket rs k) reach m is hm))

    -- one ticket, of which it is known whether the table has it, whether it is free, and whether it has one next ticket
    cover_by : k < 32 → (a b d : Bool) → mask_of (λ l. a && cond b (reaches_ticket rs k l) (d && eqb k l)) 32 ≡ cond a (cond b reach (cond d (2 ^ k) 0)) 0
    cover_by h false b d = mask_none (λ l. false) 32 (λ l i. refl)
    cover_by h true true d = sym is
    cover_by h true false true = mask_one k 32 h
    cover_by h true false false = mask_none (λ l. false) 32 (λ l i. refl)

    pub cover_row : (count : ℕ) → k < 32 → cover_step count rs reach steadies k ≡ mask_of (covers_ticket count rs k) 32
    unfolding covers_ticket
    cover_row count h =
        ap₂ (λ (x y : Bool). cond (ltb k count) (cond x reach (cond y (2 ^ k) 0)) 0) free_row constant_row
        ∙ sym (cover_by h (ltb k count) (is_free rs k) (is_constant rs k))
