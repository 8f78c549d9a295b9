-- A trip's entry by its place: where it is found, and what a write there leaves. Assumes nothing.
use Rattle.std.proofs.Common.{◌≡◌, ℕ, suc, ◌+◌, ◌<◌, ◌≤◌, Bool, true, false, cond, not, ◌&&◌, ◌||◌, eqb, ltb, leb, List, [], ◌∷◌, ◌++◌, length, set, Some, None, Option, sym, refl, ap, ◌∙◌, subst, arith}
use Rattle.std.proofs.lemmas.Bool.{and_parts, and_from, le-leb, lt-ltb, leb-true, leb-false, ltb-true, ltb-false, eqb-true, eqb-false, eq-eqb, ne_eqb, true≢false}
use Rattle.std.specs.Prelude.{position}
use Rattle.std.specs.List.{list_any, position_or_len}
use Rattle.std.specs.Option.{is_none}
use Rattle.service_day.specs.declared.delay.Delay.{Delay}
use Rattle.service_day.specs.Days.{longest_delay, set_to}
use Rattle.service_day.specs.DelayTables.{trip_of, all_late, seconds_of}
use Rattle.service_day.specs.Marks.{mark_of, MarksOf}
use Rattle.service_day.specs.Tables.{most_listed, trip_numbers, listed, tidy, with_entry, no_room}
use Rattle.service_day.proofs.Members.{Tidy, tidy_facts, tidy_tested}
use Rattle.service_day.proofs.Outcomes.{late_entry}

-- Where it is found.

module _ {E : Type 0} (key : E → ℕ) (trip : ℕ) where
  abbrev first : List E → ℕ
  first es = position_or_len (λ e. eqb (key e) trip) es

  found : (es : List E) → first es < length es → listed key trip es ≡ true
  found [] h = absurd (omega arith)
  found (x ∷ es) h = go (eqb (key x) trip) (found es) h
    where
      go : (b : Bool) → (first es < length es → listed key trip es ≡ true) → cond (not b) (1 + first es) 0 < suc (length es) → (b || listed key trip es) ≡ true
      go true f l = refl
      go false f l = f (omega arith)

  missing : (es : List E) → length es ≤ first es → listed key trip es ≡ false
  missing [] h = refl
  missing (x ∷ es) h = go (eqb (key x) trip) (missing es) h
    where
      go : (b : Bool) → (length es ≤ first es → listed key trip es ≡ false) → suc (length es) ≤ cond (not b) (1 + first es) 0 → (b || listed key trip es) ≡ false
      go true f l = absurd (omega arith)
      go false f l = f (omega arith)

  -- a trip has no place exactly where it is not listed
  pub no_place : (es : List E) → is_none (position (λ e. eqb (key e) trip) es) ≡ not (listed key trip es)
  no_place es = go (ltb (first es) (length es)) refl
    where
      go : (b : Bool) → ltb (first es) (length es) ≡ b → is_none (cond b (Some (first es)) None) ≡ not (listed key trip es)
      go true e = ap not (sym (found es (ltb-true (first es) (length es) e)))
      go false e = ap not (sym (missing es (ltb-false (first es) (length es) e)))

  pub not_found : (es : List E) → listed key trip es ≡ false → None ≡ position (λ e. eqb (key e) trip) es
  not_found es n = go (ltb (first es) (length es)) refl
    where
      go : (b : Bool) → ltb (first es) (length es) ≡ b → None ≡ cond b (Some (first es)) None
      go true e = absurd (true≢false (sym (found es (ltb-true (first es) (length es) e)) ∙ n))
      go false e = refl

  pub place_first : (es : List E) (place : ℕ) → Some place ≡ position (λ e. eqb (key e) trip) es → (place ≡ first es) × (place < length es)
  place_first es place is = go (ltb (first es) (length es)) refl is
    where
      go : (b : Bool) → ltb (first es) (length es) ≡ b → Some place ≡ cond b (Some (first es)) None → (place ≡ first es) × (place < length es)
      go true e p =
          let q : place ≡ first es = cc in
          let h = ltb-true (first es) (length es) e in
          (q, omega arith)
      go false e p = absurd (let z : ◌≡◌ {A = ℕ} 0 1 = cc in omega arith)

  pub is_listed : (es : List E) (place : ℕ) → Some place ≡ position (λ e. eqb (key e) trip) es → listed key trip es ≡ true
  is_listed es place is = let p = place_first es place is in found es (omega arith)

  pub is_unlisted : (es : List E) → None ≡ position (λ e. eqb (key e) trip) es → listed key trip es ≡ false
  is_unlisted es is = go (listed key trip es) (ap is_none is ∙ no_place es)
    where
      go : (b : Bool) → true ≡ not b → b ≡ false
      go true e = absurd (true≢false e)
      go false e = refl

  -- whether the table is full for a trip, by its place
  pub full_at : (es : List E) (place : Option ℕ) → place ≡ position (λ e. eqb (key e) trip) es → length es ≤ most_listed →
      (b : Bool) → b ≡ (is_none place && eqb (length es) most_listed) → no_room key trip es ≡ b
  full_at es place is few b e =
      ap (λ v. v && leb most_listed (length es)) (sym (ap is_none is ∙ no_place es))
      ∙ ap (λ v. is_none place && v) (last (leb most_listed (length es)) refl)
      ∙ sym e
    where
      last : (b : Bool) → leb most_listed (length es) ≡ b → b ≡ eqb (length es) most_listed
      last true e = sym (eq-eqb (length es) most_listed (let m = leb-true most_listed (length es) e in omega arith))
      last false e = sym (ne_eqb (length es) most_listed (λ q. let m = leb-false most_listed (length es) e in omega arith))

  -- a table that is not full for a trip that it does not list has an entry left
  pub entry_left : (es : List E) → no_room key trip es ≡ false → listed key trip es ≡ false → length es < most_listed
  entry_left es n new = leb-false most_listed (length es) (ap (λ b. not b && leb most_listed (length es)) (sym new) ∙ n)

-- What a write leaves.

module _ {E : Type 0} (key : E → ℕ) (e : E) where
  abbrev at : List E → ℕ
  at es = position_or_len (λ x. eqb (key x) (key e)) es

  replaced : (es : List E) → at es < length es → set es (at es) e ≡ with_entry key e es
  replaced [] h = absurd (omega arith)
  replaced (x ∷ es) h = go (eqb (key x) (key e)) (replaced es) h
    where
      go : (b : Bool) → (at es < length es → set es (at es) e ≡ with_entry key e es) → cond (not b) (1 + at es) 0 < suc (length es) →
          set (x ∷ es) (cond (not b) (1 + at es) 0) e ≡ cond b (e ∷ es) (x ∷ with_entry key e es)
      go true f l = refl
      go false f l =
          let next : 1 + at es ≡ suc (at es) = omega arith in
          ap (λ n. set (x ∷ es) n e) next ∙ ap (λ ys. x ∷ ys) (f (omega arith))

  -- at the place that was found
  pub written : (es : List E) (place : ℕ) → Some place ≡ position (λ x. eqb (key x) (key e)) es → set es place e ≡ with_entry key e es
  written es place is =
      let p = place_first key (key e) es place is in
      ap (λ n. set es n e) p.0 ∙ replaced es (omega arith)

  -- behind all, where the trip is not listed
  pub appended : (es : List E) → listed key (key e) es ≡ false → es ++ e ∷ [] ≡ with_entry key e es
  appended [] n = refl
  appended (x ∷ es) n = go (eqb (key x) (key e)) (appended es) n
    where
      go : (b : Bool) → (listed key (key e) es ≡ false → es ++ e ∷ [] ≡ with_entry key e es) → (b || listed key (key e) es) ≡ false →
          x ∷ (es ++ e ∷ []) ≡ cond b (e ∷ es) (x ∷ with_entry key e es)
      go true f m = absurd (true≢false m)
      go false f m = ap (λ ys. x ∷ ys) (f m)

  -- the trips stay as they are, so what is asked of them does
  pub same_trips : (test : ℕ → Bool) (es : List E) → listed key (key e) es ≡ true → list_any (λ x. test (key x)) (with_entry key e es) ≡ list_any (λ x. test (key x)) es
  same_trips test [] l = absurd (true≢false (sym l))
  same_trips test (x ∷ es) l = go (eqb (key x) (key e)) refl l (same_trips test es)
    where
      go : (b : Bool) → eqb (key x) (key e) ≡ b → (b || listed key (key e) es) ≡ true →
          (listed key (key e) es ≡ true → list_any (λ y. test (key y)) (with_entry key e es) ≡ list_any (λ y. test (key y)) es) →
          list_any (λ y. test (key y)) (cond b (e ∷ es) (x ∷ with_entry key e es)) ≡ (test (key x) || list_any (λ y. test (key y)) es)
      go true p m ih = ap (λ k. test k || list_any (λ y. test (key y)) es) (sym (eqb-true (key x) (key e) p))
      go false p m ih = ap (λ b. test (key x) || b) (ih m)

  pub same_marks : (marks : List Bool) (es : List E) → listed key (key e) es ≡ true → MarksOf key es marks → MarksOf key (with_entry key e es) marks
  same_marks marks es l m i = m i ∙ sym (same_trips (λ k. eqb (mark_of k) i) es l)

  tidy_with : (es : List E) → listed key (key e) es ≡ true → Tidy key es → Tidy key (with_entry key e es)
  tidy_with [] l t = absurd (true≢false (sym l))
  tidy_with (x ∷ es) l t = go (eqb (key x) (key e)) refl l (tidy_with es)
    where
      go : (b : Bool) → eqb (key x) (key e) ≡ b → (b || listed key (key e) es) ≡ true → (listed key (key e) es ≡ true → Tidy key es → Tidy key (with_entry key e es)) →
          Tidy key (cond b (e ∷ es) (x ∷ with_entry key e es))
      go true p m ih =
          let same = eqb-true (key x) (key e) p in
          (subst (λ k. k < trip_numbers) same t.0, subst (λ k. listed key k es ≡ false) same t.1, t.2)
      go false p m ih = (t.0, same_trips (λ k. eqb k (key x)) es m ∙ t.1, ih m t.2)

  pub still_tidy_with : (es : List E) → listed key (key e) es ≡ true → tidy key es ≡ true → tidy key (with_entry key e es) ≡ true
  still_tidy_with es l t = tidy_tested key (with_entry key e es) (tidy_with es l (tidy_facts key es t))

-- Delays.

seconds_with : (trip s : ℕ) (ds : List Delay) (t : ℕ) → seconds_of (with_entry trip_of (late_entry trip s) ds) t ≡ cond (eqb trip t) s (seconds_of ds t)
seconds_with trip s [] t = refl
seconds_with trip s (x ∷ ds) t = go (eqb x.trip trip) refl (seconds_with trip s ds t)
  where
    apart : (a b : Bool) → (a ≡ true → b ≡ false) → (m n k : ℕ) → cond a m (cond b n k) ≡ cond b n (cond a m k)
    apart true true f m n k = absurd (true≢false (f refl))
    apart true false f m n k = refl
    apart false b f m n k = refl

    go : (b : Bool) → eqb x.trip trip ≡ b → seconds_of (with_entry trip_of (late_entry trip s) ds) t ≡ cond (eqb trip t) s (seconds_of ds t) →
        seconds_of (cond b (late_entry trip s ∷ ds) (x ∷ with_entry trip_of (late_entry trip s) ds)) t ≡ cond (eqb trip t) s (cond (eqb x.trip t) x.seconds (seconds_of ds t))
    go true p ih =
        let same = eqb-true x.trip trip p in
        subst (λ k. cond (eqb trip t) s (seconds_of ds t) ≡ cond (eqb trip t) s (cond (eqb k t) x.seconds (seconds_of ds t))) (sym same) (again (eqb trip t))
      where
        again : (b : Bool) → cond b s (seconds_of ds t) ≡ cond b s (cond b x.seconds (seconds_of ds t))
        again true = refl
        again false = refl
    go false p ih =
        ap (λ m. cond (eqb x.trip t) x.seconds m) ih
        ∙ apart (eqb x.trip t) (eqb trip t) (λ e. ne_eqb trip t (λ q. eqb-false x.trip trip p (eqb-true x.trip t e ∙ sym q))) x.seconds s (seconds_of ds t)

pub late_with : (d : Delay) → 0 < d.seconds → d.seconds ≤ longest_delay → (ds : List Delay) → all_late ds ≡ true → all_late (with_entry trip_of d ds) ≡ true
late_with d h k [] l = and_from _ _ (and_from _ _ (lt-ltb 0 d.seconds h) (le-leb d.seconds longest_delay k)) refl
late_with d h k (x ∷ ds) l =
    let p = and_parts (ltb 0 x.seconds && leb x.seconds longest_delay) _ l in
    go (eqb x.trip d.trip) p.0 p.1 (late_with d h k ds p.1)
  where
    go : (b : Bool) → (ltb 0 x.seconds && leb x.seconds longest_delay) ≡ true → all_late ds ≡ true → all_late (with_entry trip_of d ds) ≡ true →
        all_late (cond b (d ∷ ds) (x ∷ with_entry trip_of d ds)) ≡ true
    go true head rest ih = and_from _ _ (and_from _ _ (lt-ltb 0 d.seconds h) (le-leb d.seconds longest_delay k)) rest
    go false head rest ih = and_from _ _ head ih

-- the delays of a table with an entry set
pub late_set : (trip s : ℕ) (ds es : List Delay) → es ≡ with_entry trip_of (late_entry trip s) ds → seconds_of es ≡ set_to trip s (seconds_of ds)
late_set trip s ds es e = ap seconds_of e ∙ (λ i t. seconds_with trip s ds t i)
