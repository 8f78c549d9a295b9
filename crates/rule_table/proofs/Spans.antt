-- Spans that are built rule by rule, and why the rules outside of a ticket's span say nothing of its next ticket. Assumes nothing.
use Rattle.std.proofs.Common.{◌≡◌, ℕ, zero, suc, ◌+◌, ◌<◌, ◌≤◌, ◌==◌, ◌&&◌, Bool, true, false, cond, max, List, [], ◌∷◌, length, get_or, take, drop, set, replicate, sym, refl, ap, ◌∙◌, subst, inl, inr, arith, nat_le, nat_lt, length-drop}
use Rattle.std.proofs.lemmas.Bool.{and_parts, and_from, leb-true, ltb-true, le-leb, lt-ltb, eqb-true, cases_eq, cases_lt}
use Rattle.std.proofs.lemmas.List.{get_or-set_same, get_or-set_other, length-set, get_or_default, get_or-replicate, length-replicate, get_or-drop}
use Rattle.fares.specs.declared.gauges.Gauges.{Gauges}
use Rattle.rule_table.specs.declared.rule.Rule.{Rule}
use Rattle.rule_table.specs.declared.span.Span.{Span}
use Rattle.rule_table.specs.Rules.{event_among, at_least, raised_by, next_from, ticket_after}
use Rattle.rule_table.specs.Spans.{spot, spots, no_span, in_span, spanned}

-- a span, with one place more at its end
abbrev widened : Span → ℕ → Span
widened s place = record { begin = cond (s.end == 0) place s.begin; end = place + 1 }

-- place i lies in the span of a ticket
abbrev pub LiesIn : List Span → ℕ → ℕ → Type 0
LiesIn spans k i = ((get_or spans (spot k) no_span).begin ≤ i) × (i < (get_or spans (spot k) no_span).end)

-- spans that have the first n rules
pub record Knows (spans : List Span) (rs : List Rule) (n : ℕ) : Type 0 where
  pub many : length spans ≡ spots
  pub within : (k : ℕ) → k < spots → ((get_or spans k no_span).begin ≤ n) × ((get_or spans k no_span).end ≤ n)
  pub lies : (i : ℕ) (r : Rule) → i < n → r ≡ get_or rs i r → LiesIn spans r.ticket i

-- no rule is known yet
pub knows_none : (rs : List Rule) → Knows (replicate spots no_span) rs 0
knows_none rs = record {
  many = length-replicate spots no_span;
  within = λ k h. let e = get_or-replicate spots k no_span no_span h in subst (λ (x : Span). (x.begin ≤ 0) × (x.end ≤ 0)) (sym e) (omega arith, omega arith);
  lies = λ i r h e. absurd (omega (arith, h));
}

module _ (spans : List Span) (rs : List Rule) (n s : ℕ) (r : Rule) (old : Span) (knows : Knows spans rs n) (there : n < length rs) (is : r ≡ get_or rs n r) (spot_is : s ≡ spot r.ticket) (inside : s < spots) (old_is : old ≡ get_or spans s no_span) where
  abbrev wide : List Span
  wide = set spans s (widened old n)

  here : get_or wide s no_span ≡ widened old n
  here = get_or-set_same spans s (widened old n) no_span (omega (arith, inside, knows.many))

  begins : (b : Bool) → (old.end == 0) ≡ b → (i : ℕ) → i < n + 1 → (i < n → (old.begin ≤ i) × (i < old.end)) → cond b n old.begin ≤ i
  begins true t i h before = elim (cases_lt i n) [
    | inl less ↦ let z = before less in let e = eqb-true old.end 0 t in absurd (omega (arith, z.1, e))
    | inr more ↦ omega (arith, more)
  ]
  begins false t i h before = elim (cases_lt i n) [
    | inl less ↦ (before less).0
    | inr more ↦ let w = knows.within s inside in let z = ap (λ (x : Span). x.begin) old_is in omega (arith, more, w.0, z)
  ]

  begin_fits : (b : Bool) → cond b n old.begin ≤ n + 1
  begin_fits true = omega arith
  begin_fits false = let w = knows.within s inside in let z = ap (λ (x : Span). x.begin) old_is in omega (arith, w.0, z)

  pub knows_more : Knows wide rs (n + 1)
  knows_more = record {
    many = length-set spans s (widened old n) ∙ knows.many;
    within = λ k h. elim (cases_eq k s) [
      | inl e ↦ subst (λ (x : Span). (x.begin ≤ n + 1) × (x.end ≤ n + 1)) (sym (ap (λ (j : ℕ). get_or wide j no_span) e ∙ here)) (begin_fits (old.end == 0), omega arith)
      | inr ne ↦ subst (λ (x : Span). (x.begin ≤ n + 1) × (x.end ≤ n + 1)) (sym (get_or-set_other spans s k (widened old n) no_span ne)) (let w = knows.within k h in (omega (arith, w.0), omega (arith, w.1)))
    ];
    lies = λ i x h e. elim (cases_eq (spot x.ticket) s) [
      | inl same ↦ subst (λ (y : Span). (y.begin ≤ i) × (i < y.end)) (sym (ap (λ (j : ℕ). get_or wide j no_span) same ∙ here))
          (begins (old.end == 0) refl i h (λ less. subst (λ (y : Span). (y.begin ≤ i) × (i < y.end)) (ap (λ (j : ℕ). get_or spans j no_span) same ∙ sym old_is) (knows.lies i x less e)), omega (arith, h))
      | inr ne ↦ subst (λ (y : Span). (y.begin ≤ i) × (i < y.end)) (sym (get_or-set_other spans s (spot x.ticket) (widened old n) no_span ne)) (elim (cases_lt i n) [
        | inl less ↦ knows.lies i x less e
        | inr more ↦ absurd (ne (let at : i ≡ n = omega (arith, h, more) in ap (λ (y : Rule). spot y.ticket) (e ∙ ap (λ (j : ℕ). get_or rs j x) at ∙ get_or_default rs n x r there ∙ sym is) ∙ sym spot_is))
      ])
    ];
  }

-- all rules are known
pub all_spanned : (spans : List Span) (i : ℕ) (rs : List Rule) → ((j : ℕ) (r : Rule) → j < length rs → r ≡ get_or rs j r → LiesIn spans r.ticket (i + j)) → spanned spans i rs ≡ true
all_spanned spans i [] all = refl
all_spanned spans i (r ∷ rs) all =
    let first = all 0 r (omega arith) refl in
    let s = get_or spans (spot r.ticket) no_span in
    and_from (in_span spans i r) (spanned spans (suc i) rs) (and_from (nat_le s.begin i) (nat_lt i s.end) (le-leb s.begin i (omega (arith, first.0))) (lt-ltb i s.end (omega (arith, first.1))))
    (all_spanned spans (suc i) rs (λ j x h e. let z = all (suc j) x (omega (arith, h)) e in (omega (arith, z.0), omega (arith, z.1))))

-- each rule lies in its span
pub lies_in : (spans : List Span) (i : ℕ) (rs : List Rule) → spanned spans i rs ≡ true → (j : ℕ) (r : Rule) → j < length rs → r ≡ get_or rs j r → LiesIn spans r.ticket (i + j)
lies_in spans i [] t j r h e = absurd (omega (arith, h))
lies_in spans i (x ∷ rs) t zero r h e =
    let p = and_parts (in_span spans i x) (spanned spans (suc i) rs) t in
    let s = get_or spans (spot x.ticket) no_span in
    let q = and_parts (nat_le s.begin i) (nat_lt i s.end) p.0 in
    let b : s.begin ≤ i = leb-true s.begin i q.0 in
    let c : i < s.end = ltb-true i s.end q.1 in
    subst (λ (y : Rule). LiesIn spans y.ticket (i + 0)) (sym e) (omega (arith, b), omega (arith, c))
lies_in spans i (x ∷ rs) t (suc j) r h e =
    let p = and_parts (in_span spans i x) (spanned spans (suc i) rs) t in
    let z = lies_in spans (suc i) rs p.1 j r (omega (arith, h)) e in
    (omega (arith, z.0), omega (arith, z.1))

module _ (k : ℕ) (g : Gauges) (ev : ℕ) where
  -- a rule of another ticket raises nothing
  idle : (r : Rule) (held : ℕ) → (r.ticket ≡ k → ⊥) → raised_by r k g ev held ≡ held
  idle r held ne = go (r.ticket == k) refl
    where
      go : (b : Bool) → (r.ticket == k) ≡ b → raised_by r k g ev held ≡ held
      go true t = absurd (ne (eqb-true r.ticket k t))
      go false t = ap (λ b. cond (b && (event_among r.events ev && at_least r.minima g)) (max held r.target) held) t

  none_left : (rs : List Rule) (held : ℕ) → ((j : ℕ) (r : Rule) → j < length rs → r ≡ get_or rs j r → r.ticket ≡ k → ⊥) → next_from rs k g ev held ≡ held
  none_left [] held none = refl
  none_left (r ∷ rs) held none = ap (next_from rs k g ev) (idle r held (none 0 r (omega arith) refl)) ∙ none_left rs held (λ j x h e. none (suc j) x (omega (arith, h)) e)

  before : (n : ℕ) (rs : List Rule) (held : ℕ) → ((j : ℕ) (r : Rule) → j < length rs → r ≡ get_or rs j r → r.ticket ≡ k → n ≤ j) → next_from (drop n rs) k g ev held ≡ next_from rs k g ev held
  before zero rs held all = refl
  before (suc n) [] held all = refl
  before (suc n) (r ∷ rs) held all =
      before n rs held (λ j x h e t. let z = all (suc j) x (omega (arith, h)) e t in omega (arith, z))
      ∙ sym (ap (next_from rs k g ev) (idle r held (λ t. let z = all 0 r (omega arith) refl t in absurd (omega (arith, z)))))

  after : (n : ℕ) (rs : List Rule) (held : ℕ) → ((j : ℕ) (r : Rule) → j < length rs → r ≡ get_or rs j r → r.ticket ≡ k → j < n) → next_from (take n rs) k g ev held ≡ next_from rs k g ev held
  after zero rs held all = sym (none_left rs held (λ j x h e t. let z = all j x h e t in absurd (omega (arith, z))))
  after (suc n) [] held all = refl
  after (suc n) (r ∷ rs) held all = after n rs (raised_by r k g ev held) (λ j x h e t. let z = all (suc j) x (omega (arith, h)) e t in omega (arith, z))

  -- what lies between gives the next ticket
  pub narrowed : (rs : List Rule) (b e : ℕ) → ((j : ℕ) (r : Rule) → j < length rs → r ≡ get_or rs j r → r.ticket ≡ k → (b ≤ j) × (j < e)) → (n : ℕ) → e ≡ b + n → ticket_after (take n (drop b rs)) k g ev ≡ ticket_after rs k g ev
  narrowed rs b e all n is =
      after n (drop b rs) k (λ j r h x t. let z = all (b + j) r (omega (arith, h, length-drop b rs)) (x ∙ get_or-drop b rs j r) t in omega (arith, z.1, is))
      ∙ before b rs k (λ j r h x t. (all j r h x t).0)
