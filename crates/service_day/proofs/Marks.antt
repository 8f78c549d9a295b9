-- Marks spare a search: what a table lists is marked. Assumes nothing.
use Rattle.std.proofs.Common.{◌≡◌, ℕ, ◌+◌, ◌<◌, Bool, true, false, cond, ◌||◌, ◌==◌, List, [], ◌∷◌, ◌++◌, length, take, get_or, set, replicate, sym, refl, ap, ◌∙◌, inl, inr, arith}
use Rattle.std.proofs.Math.ListN.{get_or-eq_default}
use Rattle.std.proofs.lemmas.Bool.{eqb-true, eq-eqb, ne_eqb, cases_eq, cases_lt, or_cases, or_left, or_right, true≢false}
use Rattle.std.proofs.lemmas.List.{get_or-replicate, length-replicate, get_or-set_same, get_or-set_other}
use Rattle.std.proofs.lemmas.List.Folds.{list_any_more, list_any-append}
use Rattle.std.specs.List.{list_any}
use Rattle.service_day.specs.declared.delay.Delay.{Delay}
use Rattle.service_day.specs.DelayTables.{trip_of, seconds_of}
use Rattle.service_day.specs.Marks.{mark_count, mark_of, marked, MarksOf}
use Rattle.service_day.specs.Tables.{listed}

-- no mark is set for no entry
pub none_marked : {E : Type 0} (key : E → ℕ) (i : ℕ) → get_or (replicate mark_count false) i false ≡ list_any (λ (e : E). mark_of (key e) == i) []
none_marked key i = elim (cases_lt i mark_count) [
  | inl less ↦ get_or-replicate mark_count i false false less
  | inr more ↦ get_or-eq_default (replicate mark_count false) false {n = i} (omega (arith, more, length-replicate mark_count false))
]

-- a mark is set for one entry more
module _ {E : Type 0} (key : E → ℕ) (marks : List Bool) (sized : length marks ≡ mark_count) (t m : ℕ) (is : m ≡ mark_of t) (within : m < mark_count) where
  pub one_marked : (es : List E) (n : ℕ) (e : E) → n < length es → e ≡ get_or es n e → t ≡ key e → MarksOf key (take n es) marks → MarksOf key (take (n + 1) es) (set marks m true)
  one_marked es n e h here of before i =
      elim (cases_eq i m) [
        | inl same ↦ ap (λ k. get_or (set marks m true) k false) same ∙ get_or-set_same marks m true false (omega (arith, sized, within))
            ∙ sym (or_right (list_any (λ x. mark_of (key x) == i) (take n es)) _ (eq-eqb (mark_of (key (get_or es n e))) i (there ∙ sym is ∙ sym same)))
        | inr other ↦ get_or-set_other marks m i true false other ∙ before i
            ∙ sym (or_none (list_any (λ x. mark_of (key x) == i) (take n es)) (ne_eqb (mark_of (key (get_or es n e))) i (λ q. other (sym q ∙ there ∙ sym is))))
      ]
      ∙ sym (list_any_more (λ x. mark_of (key x) == i) es n e h)
    where
      there : mark_of (key (get_or es n e)) ≡ mark_of t
      there = ap (λ x. mark_of (key x)) (sym here) ∙ ap mark_of (sym of)

      or_none : (a : Bool) {b : Bool} → b ≡ false → (a || b) ≡ a
      or_none true q = refl
      or_none false q = q

-- the place of a mark is one of a mark
mark_within : (trip : ℕ) → mark_of trip < mark_count
unfolding mark_of
mark_within trip = omega arith

-- a mark is set for an entry behind the others
pub one_behind : {E : Type 0} (key : E → ℕ) (marks : List Bool) → length marks ≡ mark_count → (es : List E) (e : E) → MarksOf key es marks → MarksOf key (es ++ e ∷ []) (set marks (mark_of (key e)) true)
one_behind key marks sized es e before i =
    elim (cases_eq i (mark_of (key e))) [
      | inl same ↦ ap (λ k. get_or (set marks (mark_of (key e)) true) k false) same
          ∙ get_or-set_same marks (mark_of (key e)) true false (omega (arith, sized, mark_within (key e)))
          ∙ sym (or_right (list_any (λ x. mark_of (key x) == i) es) _ (or_left (mark_of (key e) == i) false (eq-eqb (mark_of (key e)) i (sym same))))
      | inr other ↦ get_or-set_other marks (mark_of (key e)) i true false other ∙ before i
          ∙ sym (or_none (list_any (λ x. mark_of (key x) == i) es) (ap (λ b. b || false) (ne_eqb (mark_of (key e)) i (λ q. other (sym q)))))
    ]
    ∙ sym (list_any-append (λ x. mark_of (key x) == i) es (e ∷ []))
  where
    or_none : (a : Bool) {b : Bool} → b ≡ false → (a || b) ≡ a
    or_none true q = refl
    or_none false q = q

module _ {E : Type 0} (key : E → ℕ) (marks : List Bool) where
  listed_marks : (es : List E) (trip : ℕ) → listed key trip es ≡ true → list_any (λ e. mark_of (key e) == mark_of trip) es ≡ true
  listed_marks [] trip l = l
  listed_marks (x ∷ es) trip l = elim (or_cases (key x == trip) (listed key trip es) l) [
    | inl a ↦ or_left (mark_of (key x) == mark_of trip) _ (eq-eqb (mark_of (key x)) (mark_of trip) (ap mark_of (eqb-true (key x) trip a)))
    | inr b ↦ or_right (mark_of (key x) == mark_of trip) _ (listed_marks es trip b)
  ]

  -- a trip with no mark need not be looked for
  pub not_sought : (es : List E) (trip : ℕ) → MarksOf key es marks → marked marks trip ≡ false → listed key trip es ≡ false
  not_sought es trip m n = go (listed key trip es) refl
    where
      go : (b : Bool) → listed key trip es ≡ b → b ≡ false
      go true l = absurd (true≢false (sym (m (mark_of trip) ∙ listed_marks es trip l) ∙ n))
      go false l = refl

-- a trip that is not listed has no delay
pub none_late : (ds : List Delay) (trip : ℕ) → listed trip_of trip ds ≡ false → seconds_of ds trip ≡ 0
none_late [] trip e = refl
none_late (d ∷ ds) trip e = go (d.trip == trip) e (none_late ds trip)
  where
    go : (b : Bool) → (b || listed trip_of trip ds) ≡ false → (listed trip_of trip ds ≡ false → seconds_of ds trip ≡ 0) → cond b d.seconds (seconds_of ds trip) ≡ 0
    go true q rest = absurd (true≢false q)
    go false q rest = rest q
