-- Tables as sets: what they list, and how many.
use Rattle.std.proofs.Common.{◌≡◌, ℕ, zero, suc, ◌<◌, ◌≤◌, Bool, true, false, cond, not, ◌&&◌, ◌||◌, eqb, ltb, leb, List, [], ◌∷◌, ◌++◌, length, sym, refl, ap, ◌∙◌, ⊎_elim, arith}
use Rattle.std.specs.Prelude.{if◌then◌else◌}
use Rattle.std.proofs.lemmas.Bool.{eq-eqb, ne_eqb, eqb-true, eqb-false, cases_eq, or_from, and_parts, and_from, and_right, not-true, ltb-true, lt-ltb, true≢false}
use Rattle.service_day.specs.Tables.{most_listed, trip_numbers, listed, tidy, without, no_room}
use Rattle.service_day.specs.Days.{members_below, how_many, set_full}

module _ {E : Type 0} (key : E → ℕ) where
  -- each entry is of a trip number, and no trip has two, in plain facts
  abbrev pub Tidy : List E → Type 0
  Tidy [] = Unit {0}
  Tidy (e ∷ es) = (key e < trip_numbers) × (listed key (key e) es ≡ false) × Tidy es

  pub tidy_facts : (es : List E) → tidy key es ≡ true → Tidy es
  tidy_facts [] e = tt
  tidy_facts (x ∷ es) e =
      let p = and_parts (ltb (key x) trip_numbers) _ e in
      let q = and_parts (not (listed key (key x) es)) _ p.1 in
      (ltb-true _ _ p.0, not-true _ q.0, tidy_facts es q.1)

  pub tidy_tested : (es : List E) → Tidy es → tidy key es ≡ true
  tidy_tested [] t = refl
  tidy_tested (x ∷ es) t = and_from _ _ (lt-ltb _ _ t.0) (and_from _ _ (ap not t.1) (tidy_tested es t.2))

  pub listed_push : (e : E) (es : List E) (t : ℕ) → listed key t (es ++ e ∷ []) ≡ (eqb (key e) t || listed key t es)
  listed_push e [] t = refl
  listed_push e (x ∷ es) t = ap (λ b. eqb (key x) t || b) (listed_push e es t) ∙ swap (eqb (key x) t) (eqb (key e) t) (listed key t es)
    where
      swap : (a b c : Bool) → (a || (b || c)) ≡ (b || (a || c))
      swap true true c = refl
      swap true false c = refl
      swap false b c = refl

  pub listed_without : (trip : ℕ) (es : List E) (t : ℕ) → listed key t (without key trip es) ≡ (not (eqb trip t) && listed key t es)
  listed_without trip [] t = go (eqb trip t)
    where
      go : (b : Bool) → false ≡ (not b && false)
      go true = refl
      go false = refl
  listed_without trip (x ∷ es) t = go (eqb (key x) trip) (eqb trip t) refl refl (listed_without trip es t)
    where
      go : (a b : Bool) → eqb (key x) trip ≡ a → eqb trip t ≡ b → listed key t (without key trip es) ≡ (not b && listed key t es) →
          listed key t (cond (not a) (x ∷ without key trip es) (without key trip es)) ≡ (not b && (eqb (key x) t || listed key t es))
      go true true p q ih = ih
      go true false p q ih =
          let s = eqb-true (key x) trip p in
          ih ∙ ap (λ b. b || listed key t es) (sym (ap (λ k. eqb k t) s ∙ q))
      go false true p q ih =
          let s = eqb-true trip t q in
          ap (λ b. eqb (key x) t || b) ih ∙ ap (λ b. b || false) (ap (eqb (key x)) (sym s) ∙ p)
      go false false p q ih = ap (λ b. eqb (key x) t || b) ih

  pub tidy_push : (e : E) (es : List E) → key e < trip_numbers → listed key (key e) es ≡ false → Tidy es → Tidy (es ++ e ∷ [])
  tidy_push e [] h new t = (h, refl, tt)
  tidy_push e (x ∷ es) h new t =
      let apart = or_none (eqb (key x) (key e)) _ new in
      (t.0, listed_push e es (key x) ∙ or_from (eqb (key e) (key x)) _ (ne_eqb (key e) (key x) (λ s. eqb-false (key x) (key e) apart.0 (sym s))) t.1, tidy_push e es h apart.1 t.2)
    where
      or_none : (a b : Bool) → (a || b) ≡ false → (a ≡ false) × (b ≡ false)
      or_none true b n = absurd (true≢false n)
      or_none false b n = (refl, n)

  pub tidy_without : (trip : ℕ) (es : List E) → Tidy es → Tidy (without key trip es)
  tidy_without trip [] t = tt
  tidy_without trip (x ∷ es) t = go (not (eqb (key x) trip)) (tidy_without trip es t.2)
    where
      go : (b : Bool) → Tidy (without key trip es) → Tidy (cond b (x ∷ without key trip es) (without key trip es))
      go true ih = (t.0, listed_without trip es (key x) ∙ and_right (not (eqb trip (key x))) _ t.1, ih)
      go false ih = ih

-- a number put into a set counts once
members_none : (n : ℕ) → members_below (λ t. false) n ≡ 0
unfolding members_below
members_none zero = refl
members_none (suc n) = members_none n

members_past : (x : ℕ) (f : ℕ → Bool) (n : ℕ) → n ≤ x → members_below (λ t. eqb x t || f t) n ≡ members_below f n
unfolding members_below
members_past x f zero h = refl
members_past x f (suc n) h =
    ap (λ b. cond (b || f n) (suc (members_below (λ t. eqb x t || f t) n)) (members_below (λ t. eqb x t || f t) n)) (ne_eqb x n (λ e. omega arith))
    ∙ ap (λ m. cond (f n) (suc m) m) (members_past x f n (omega arith))

members_more : (x : ℕ) (f : ℕ → Bool) → f x ≡ false → (n : ℕ) → x < n → members_below (λ t. eqb x t || f t) n ≡ suc (members_below f n)
unfolding members_below
members_more x f new zero h = absurd (omega arith)
members_more x f new (suc n) h =
    ⊎_elim
    (λ e. ap (λ b. cond (b || f n) (suc (members_below (λ t. eqb x t || f t) n)) (members_below (λ t. eqb x t || f t) n)) (eq-eqb x n e)
    ∙ ap suc (members_past x f n (omega arith))
    ∙ sym (ap (λ b. suc (cond b (suc (members_below f n)) (members_below f n))) (ap f (sym e) ∙ new)))
    (λ e. ap (λ b. cond (b || f n) (suc (members_below (λ t. eqb x t || f t) n)) (members_below (λ t. eqb x t || f t) n)) (ne_eqb x n e)
    ∙ ap (λ m. cond (f n) (suc m) m) (members_more x f new n (omega arith))
    ∙ past_suc (f n))
    (cases_eq x n)
  where
    past_suc : (b : Bool) → cond b (suc (suc (members_below f n))) (suc (members_below f n)) ≡ suc (cond b (suc (members_below f n)) (members_below f n))
    past_suc true = refl
    past_suc false = refl

module _ {E : Type 0} (key : E → ℕ) where
  -- a tidy table lists as many entries as its set has members
  members_listed : (es : List E) → Tidy key es → members_below (λ t. listed key t es) trip_numbers ≡ length es
  members_listed [] t = members_none trip_numbers
  members_listed (e ∷ es) t = members_more (key e) (λ x. listed key x es) t.1 trip_numbers t.0 ∙ ap suc (members_listed es t.2)

  pub how_many_listed : (es : List E) → tidy key es ≡ true → how_many (λ t. listed key t es) ≡ length es
  unfolding how_many
  how_many_listed es t = members_listed es (tidy_facts key es t)

  -- the table has no room exactly where its set is full
  pub full_as_set : (trip : ℕ) (es : List E) → tidy key es ≡ true → no_room key trip es ≡ set_full trip (λ t. listed key t es)
  full_as_set trip es t = ap (λ m. not (listed key trip es) && leb most_listed m) (sym (how_many_listed es t))

  pub still_tidy_push : (e : E) (es : List E) → key e < trip_numbers → listed key (key e) es ≡ false → tidy key es ≡ true → tidy key (es ++ e ∷ []) ≡ true
  still_tidy_push e es h new t = tidy_tested key (es ++ e ∷ []) (tidy_push key e es h new (tidy_facts key es t))

  pub still_tidy_without : (trip : ℕ) (es : List E) → tidy key es ≡ true → tidy key (without key trip es) ≡ true
  still_tidy_without trip es t = tidy_tested key (without key trip es) (tidy_without key trip es (tidy_facts key es t))

  pub still_tidy_listed : (e : E) (es fs : List E) (b : Bool) → fs ≡ (if b then es ++ e ∷ [] else es) → key e < trip_numbers → listed key (key e) es ≡ false → tidy key es ≡ true → tidy key fs ≡ true
  still_tidy_listed e es fs true q h new t = ap (tidy key) q ∙ still_tidy_push e es h new t
  still_tidy_listed e es fs false q h new t = ap (tidy key) q ∙ t
