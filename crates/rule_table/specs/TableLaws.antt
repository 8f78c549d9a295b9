-- The laws of a rule table that is not refused.
-- Assumes nothing.
use Rattle.std.specs.Prelude.{◌≡◌, ℕ, zero, suc, ◌+◌, ◌/◌, ◌%◌, ◌^◌, ◌<◌, ◌≤◌, Bool, true, false, cond, ◌&&◌, leb, ◌⊎◌, List, [], ◌∷◌, length, is_some, Some, None, Decides, ◌==◌, nat_le, nat_lt, slice_index, slice_index_or, refl}
use Rattle.std.proofs.Common.{inl, inr, ⊎_elim, sym, ap, subst, subst₂, ◌∙◌, arith}
use Rattle.std.proofs.lemmas.Bool.{and_parts, leb-true, ltb-true, cases_Bool, cases_lt, true≢false, and_left, le-ltb, cond-true}
use Rattle.fares.specs.Readings.{AtMost}
use Rattle.rule_table.specs.CoverTests.{is_free, covers_ticket}
use Rattle.rule_table.specs.Masks.{ticket_listed, MaskRows}
use Rattle.rule_table.specs.Covering.{Free, Fixed, Covers}
use Rattle.rule_table.specs.Rules.{met, ticket_after, SomeRule, Leads, RulesRise, Reaches, IsNext}
use Rattle.rule_table.specs.Rules.Reaches.{stays, goes}
use Rattle.rule_table.specs.RuleTables.{prices_within, starts_within, rule_within, rest_within, first_bad, table_refusal, table_model}
use Rattle.fares.specs.Tariffs.{TariffLaws}
use Rattle.fares.specs.Limits.{top_price}
use Rattle.fares.specs.declared.gauges.Gauges.{Gauges}
use Rattle.rule_table.specs.declared.refusal.Refusal.TheVariants.{Rest, BadRule}
use Rattle.rule_table.specs.declared.rule.Rule.{Rule}
use Rattle.rule_table.specs.Bounded.{some_weaker}
use Rattle.rule_table.specs.MaskBits.{has_mask}
use Rattle.rule_table.specs.NextTickets.{met_tells, next_met, next_cases, next_reached}
use Rattle.rule_table.specs.Reaching.{reaches_trans, reaches_within}
use Rattle.rule_table.specs.Deciding.{decides_free, decides_covers, free_onward, taken_out}

-- ---- a table that is not refused is within limits

-- a rule within limits, as facts
pub record Within (prices : List ℕ) (r : Rule) : Type 0 where
  pub ticket : r.ticket < length prices
  pub target : r.target < length prices
  pub higher : r.ticket < r.target
  pub no_cheaper : slice_index_or prices r.ticket 0 ≤ slice_index prices r.target

within_tells : (prices : List ℕ) (r : Rule) → rule_within prices r ≡ true → Within prices r
within_tells prices r t =
    let n = length prices in
    let p = leb (slice_index prices r.ticket) (slice_index prices r.target) in
    let a = and_parts (nat_lt r.ticket n) (nat_lt r.target n && (nat_lt r.ticket r.target && p)) t in
    let b = and_parts (nat_lt r.target n) (nat_lt r.ticket r.target && p) a.1 in
    let c = and_parts (nat_lt r.ticket r.target) p b.1 in
    record { ticket = ltb-true _ _ a.0; target = ltb-true _ _ b.0; higher = ltb-true _ _ c.0; no_cheaper = leb-true _ _ c.1 }

-- where no rule is bad, a rule with P is one within limits
rules_tell : {P : Rule → Type 0} (prices : List ℕ) (i : ℕ) (rs : List Rule) → is_some (first_bad prices i rs) ≡ false → SomeRule P rs
    → (r : Rule) × P r × Within prices r
rules_tell prices i [] t s = absurd s
rules_tell {P} prices i (r ∷ rs) t s =
    let u = first_within (rule_within prices r) refl t in
    ⊎_elim {C = (r : Rule) × P r × Within prices r} (λ h. (r, h, within_tells prices r u.0)) (λ h. rules_tell prices (i + 1) rs u.1 h) s
  where
    first_within : (b : Bool) → rule_within prices r ≡ b → is_some (cond b (first_bad prices (i + 1) rs) (Some (BadRule i))) ≡ false
        → (rule_within prices r ≡ true) × (is_some (first_bad prices (i + 1) rs) ≡ false)
    first_within true w u = (w, u)
    first_within false w u = absurd (true≢false u)

pub record Sound (prices : List ℕ) (rules : List Rule) : Type 0 where
  pub few : length prices ≤ 32
  pub priced : prices_within prices ≡ true
  pub rules_within : is_some (first_bad prices 0 rules) ≡ false

pub sound_from : (prices : List ℕ) (rules : List Rule) (starts : List ℕ) → is_some (table_refusal prices rules starts) ≡ false → Sound prices rules
sound_from prices rules starts t = pick (rest_within prices rules starts) refl t
  where
    pick : (b : Bool) → rest_within prices rules starts ≡ b → is_some (cond b (first_bad prices 0 rules) (Some Rest)) ≡ false → Sound prices rules
    pick false w u = absurd (true≢false u)
    pick true w u =
        let n = length prices in
        let d = prices_within prices && starts_within n starts in
        let a = and_parts (nat_le 1 n) (nat_le n 32 && (nat_le (length rules) 128 && d)) w in
        let b = and_parts (nat_le n 32) (nat_le (length rules) 128 && d) a.1 in
        let c = and_parts (nat_le (length rules) 128) d b.1 in
        let e = and_parts (prices_within prices) (starts_within n starts) c.1 in
        record { few = leb-true n 32 b.0; priced = e.0; rules_within = u }

pub price_within : (prices : List ℕ) (k : ℕ) → prices_within prices ≡ true → slice_index prices k ≤ top_price
price_within [] k t = omega arith
price_within (p ∷ ps) zero t = leb-true p top_price (and_parts (nat_le p top_price) (prices_within ps) t).0
price_within (p ∷ ps) (suc k) t = price_within ps k (and_parts (nat_le p top_price) (prices_within ps) t).1

-- ---- the laws

module _ (prices : List ℕ) (rules : List Rule) (sound : Sound prices rules) where
  -- a rule leads up, within the table, to a ticket that costs no less
  leads_within : (k p : ℕ) → Leads rules k p → (k < p) × (p < length prices) × (slice_index prices k ≤ slice_index prices p)
  leads_within k p s =
      let t = rules_tell prices 0 rules sound.rules_within s in
      let w = t.2 in
      let a = t.1.0 in
      let b = t.1.1 in
      subst₂ (λ (x y : ℕ). (x < y) × (y < length prices) × (slice_index prices x ≤ slice_index prices y)) a b (w.higher, w.target, w.no_cheaper)

  pub rising : (k p : ℕ) → Leads rules k p → (k < p) × (p < length prices)
  rising k p s = let t = leads_within k p s in (t.0, t.1)

  reaches_price : {k l : ℕ} → Reaches rules k l → slice_index prices k ≤ slice_index prices l
  reaches_price stays = omega arith
  reaches_price (goes {k = k} {p = p} {l = l} s r) = omega (arith, (leads_within k p s).2, reaches_price r)

  pub covers? : (k l : ℕ) → Decides (covers_ticket (length prices) rules k l) (Covers (length prices) rules k l)
  covers? = decides_covers (length prices) rules sound.few rising

  covers_trans : (j k l : ℕ) → Covers (length prices) rules j k → Covers (length prices) rules k l → Covers (length prices) rules j l
  covers_trans j k l (h, inl a) (i, inl b) = (h, inl (a.0, reaches_trans a.1 b.1))
  covers_trans j k l (h, inl a) (i, inr b) = (h, inl (a.0, subst (λ (x : ℕ). Reaches rules j x) b.1 a.1))
  covers_trans j k l (h, inr a) (i, c) = subst (λ (x : ℕ). Covers (length prices) rules x l) (sym a.1) (i, c)

  covers_price : (k l : ℕ) → Covers (length prices) rules k l → slice_index prices k ≤ slice_index prices l
  covers_price k l (h, inl a) = reaches_price a.1
  covers_price k l (h, inr a) = omega (arith, ap (λ (x : ℕ). slice_index prices x) a.1)

  -- what a ticket with one next ticket reaches covers itself: it is free, or else fixed as well
  covers_itself : (k p : ℕ) → k < length prices → Fixed rules k → Reaches rules k p → Covers (length prices) rules p p
  covers_itself k p h fixed rp = (hp, pick (cases_Bool (is_free rules p)))
    where
      hp : p < length prices
      hp = reaches_within (length prices) rules rising rp h

      free? : Decides (is_free rules p) (Free rules p)
      free? = decides_free (length prices) rules sound.few rising p hp

      pick : (is_free rules p ≡ true) ⊎ (is_free rules p ≡ false) → (Free rules p × Reaches rules p p) ⊎ (Fixed rules p × (p ≡ p))
      pick (inl t) = inl (free?.0 t, stays)
      pick (inr f) =
          inr (record { not_free = λ x. true≢false (sym (free?.1 x) ∙ f); one_next = λ m rm. fixed.one_next m (reaches_trans rp rm) }, refl)

  -- The next tickets of covering tickets cover. A free ticket: what it reaches is free, and its order lasts. A fixed one is
  -- the other ticket itself, both have the same next ticket whatever the gauges, and that one covers itself.
  covers_next : (k l : ℕ) (g h : Gauges) (e : ℕ) → e < 16 → AtMost g h → Covers (length prices) rules k l
      → Covers (length prices) rules (ticket_after rules k g e) (ticket_after rules l h e)
  covers_next k l g h e he le (hk, inl a) = (
    reaches_within (length prices) rules rising (next_reached rules k g e) hk,
    inl (
      free_onward (length prices) rules sound.few rising k (ticket_after rules k g e) hk a.0 (next_reached rules k g e),
      a.0.keeps k l stays a.1 g h le e he,
    ),
  )
  covers_next k l g h e he le (hk, inr a) =
      subst (λ (x : ℕ). Covers (length prices) rules (ticket_after rules k g e) x)
      (a.0.one_next k stays e he g h ∙ ap (λ (x : ℕ). ticket_after rules x h e) a.1)
      (covers_itself k (ticket_after rules k g e) hk a.0 (next_reached rules k g e))

  pub table_laws : (starts : List ℕ) → TariffLaws (table_model prices rules starts)
  table_laws starts = record {
    transitive = λ j k l s t. (covers? j l).1 (covers_trans j k l ((covers? j k).0 s) ((covers? k l).0 t));
    no_dearer = λ k l s. covers_price k l ((covers? k l).0 s);
    monotone = λ k l g h e there s le. (covers? (ticket_after rules k g e) (ticket_after rules l h e)).1 (covers_next k l g h e (omega arith) le ((covers? k l).0 s));
    never_falls = λ k g e there. reaches_price (next_reached rules k g e);
  }

  -- the next ticket is what it is said to be
  pub next_is : (k : ℕ) (g : Gauges) (e : ℕ) → IsNext rules k g e (ticket_after rules k g e)
  next_is k g e = record {
    stays = λ none. ⊎_elim {C = ticket_after rules k g e ≡ k} (λ i. i) (λ s. absurd (none (some_weaker (λ r m. m.0) rules s))) (next_cases rules k g e k);
    named = λ some. ⊎_elim {C = SomeRule (λ r. (met r k g e ≡ true) × (r.target ≡ ticket_after rules k g e)) rules}
        (λ i. absurd (rises i some)) (λ s. s) (next_cases rules k g e k);
    highest = λ t s. next_met rules k g e k t (some_weaker (λ r m. (m.0, omega (arith, m.1))) rules s);
  }
    where
      -- a met rule leads up, so the next ticket is another
      rises : ticket_after rules k g e ≡ k → SomeRule (λ r. met r k g e ≡ true) rules → ⊥
      rises i some =
          let t = taken_out rules some in
          let r = t.0 in
          let lead : Leads rules k r.target =
          some_weaker (λ q is. (ap (λ (x : Rule). x.ticket) is ∙ (met_tells r k g e t.1).ticket, ap (λ (x : Rule). x.target) is)) rules t.2 in
          let up : k < r.target = (rising k r.target lead).0 in
          let on : r.target ≤ ticket_after rules k g e =
          next_met rules k g e k r.target
          (some_weaker (λ q is. subst (λ (x : Rule). (met x k g e ≡ true) × (r.target ≤ x.target)) (sym is) (t.1, omega arith)) rules t.2) in
          omega arith

  -- a row of the masks that the table holds tells what its ticket covers
  pub covers_read : (masks : List ℕ) → MaskRows (covers_ticket (length prices) rules) masks → (k l : ℕ) → k < 32 → ticket_listed (slice_index masks k) l ≡ covers_ticket (length prices) rules k l
  covers_read masks rows k l h = ⊎_elim {C = ticket_listed (slice_index masks k) l ≡ covers_ticket (length prices) rules k l} low high (cases_lt l 32)
    where
      low : l < 32 → ticket_listed (slice_index masks k) l ≡ covers_ticket (length prices) rules k l
      low i = ap (λ (x : ℕ). ticket_listed x l) (rows k h) ∙ has_mask (covers_ticket (length prices) rules k) l i

      reached : Covers (length prices) rules k l → l < 32
      reached (hk, inl a) = let t : l < length prices = reaches_within (length prices) rules rising a.1 hk in omega (arith, sound.few)
      reached (hk, inr a) = omega (arith, a.1)

      high : 32 ≤ l → ticket_listed (slice_index masks k) l ≡ covers_ticket (length prices) rules k l
      high i = and_left (nat_lt l 32) (slice_index masks k / 2 ^ l % 2 == 1) (le-ltb l 32 i) ∙ none (covers_ticket (length prices) rules k l) refl
        where
          none : (b : Bool) → covers_ticket (length prices) rules k l ≡ b → false ≡ b
          none false t = refl
          none true t = absurd (omega (arith, reached ((covers? k l).0 t)))

-- a number that is no ticket covers none
pub covers_none : (count : ℕ) (rules : List Rule) (k l : ℕ) → count ≤ k → covers_ticket count rules k l ≡ false
unfolding covers_ticket
covers_none count rules k l h = and_left (nat_lt k count) _ (le-ltb k count h)

-- the rules of a table that is not refused lead up, within 32 tickets
pub rising_from : (prices : List ℕ) (rules : List Rule) (starts : List ℕ) → rest_within prices rules starts ≡ true → first_bad prices 0 rules ≡ None → RulesRise 32 rules
rising_from prices rules starts rest none k p s =
    let fine : is_some (table_refusal prices rules starts) ≡ false = ap is_some (cond-true (rest_within prices rules starts) (first_bad prices 0 rules) (Some Rest) rest ∙ none) in
    let sound = sound_from prices rules starts fine in
    let t = rising prices rules sound k p s in
    (t.0, omega (arith, t.1, sound.few))
