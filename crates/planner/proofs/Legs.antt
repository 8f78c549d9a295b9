-- The legs to a label, from those to the label that it comes from; and a list with something written at a place.
use Rattle.std.proofs.Common.{◌≡◌, ℕ, zero, suc, ◌+◌, ◌<◌, ◌≤◌, List, [], ◌∷◌, ◌++◌, map, length, get_or, take, drop, set, Option, Some, None, sym, ap, ◌∙◌, subst, arith, length-append, take-append-drop, length-take}
use lib.ListN.{length-map}
use Rattle.std.proofs.lemmas.List.{take_more, map-append}
use Rattle.journeys.specs.declared.label.Label.{Label}
use Rattle.journeys.specs.declared.label.Way.{Way}
use Rattle.journeys.specs.declared.label.Way.TheVariants.{Origin, Walked, Rode}
use Rattle.journeys.specs.declared.leg.Leg.{Leg as SheetLeg}
use Rattle.journeys.specs.Journey.{Leg, walk, ride}
use Rattle.journeys.specs.Lists.{Eachi}
use Rattle.journeys.specs.Traces.{legs_by, traces, legs_of, spelled}
use Rattle.journeys.proofs.Traces.{legs_stay, legs_push}
use Rattle.sheet.specs.Outcome.{pasted}
use Rattle.sheet.proofs.Pasting.{pasted_one, pasted_more}
use Rattle.planner.specs.Tracing.{Earlier, Backward, last_leg}

eachi_get : {A : Type 0} (P : ℕ → A → Type 0) (i : ℕ) (xs : List A) → Eachi P i xs → (j : ℕ) (d : A) → j < length xs → P (i + j) (get_or xs j d)
eachi_get P i [] e j d h = absurd (omega arith)
eachi_get P i (x ∷ xs) e zero d h = subst (λ (n : ℕ). P n x) (let z : i ≡ i + 0 = omega arith in z) e.0
eachi_get P i (x ∷ xs) e (suc j) d h = subst (λ (n : ℕ). P n (get_or xs j d)) (let z : suc i + j ≡ i + suc j = omega arith in z) (eachi_get P (suc i) xs e.1 j d (omega arith))

-- where a label that was read at a place comes from
pub comes_from : {S : Type 0} (ls : List (Label S)) (j : ℕ) (l : Label S) → Backward ls → j < length ls → l ≡ get_or ls j l → Earlier j l.way
comes_from {S = S} ls j l b h e =
    let p = eachi_get (λ k x. Earlier k x.way) 0 ls b j l h in
    let q = subst (λ (n : ℕ). Earlier n (get_or ls j l).way) (let z : 0 + j ≡ j = omega arith in z) p in
    subst (λ (x : Label S). Earlier j x.way) (sym e) q

module _ {S : Type 0} (ls : List (Label S)) (j : ℕ) (l : Label S) (h : j < length ls) (e : l ≡ get_or ls j l) where
  split : ls ≡ (take j ls ++ (l ∷ [])) ++ drop (j + 1) ls
  split = sym (take-append-drop (j + 1) ls) ∙ ap (λ xs. xs ++ drop (j + 1) ls) (take_more ls j l h ∙ ap (λ (x : Label S). take j ls ++ (x ∷ [])) (sym e))

  first_length : length (take j ls) ≡ j
  first_length = omega (arith, length-take j ls)

  legs_at : legs_of ls j ≡ legs_by l.way (traces (take j ls))
  legs_at =
      ap (λ xs. legs_of xs j) split
      ∙ legs_stay (take j ls ++ (l ∷ [])) (drop (j + 1) ls) j (simp length-append (omega (arith, first_length)))
      ∙ ap (λ (n : ℕ). legs_of (take j ls ++ (l ∷ [])) n) (sym first_length)
      ∙ legs_push (take j ls) l

  legs_before : (from : ℕ) → from < j → legs_of (take j ls) from ≡ legs_of ls from
  legs_before from b = sym (ap (λ xs. legs_of xs from) (sym (take-append-drop j ls)) ∙ legs_stay (take j ls) (drop j ls) from (omega (arith, first_length)))

  -- no leg ends at a label without a last leg
  none_by : (w : Way) (row : ℕ) → l.way ≡ w → last_leg row w ≡ None → legs_of ls j ≡ []
  none_by Origin row is e = legs_at ∙ ap (λ x. legs_by x (traces (take j ls))) is
  none_by (Walked path from) row is e = absurd (let z : ◌≡◌ {A = ℕ} 0 1 = cc in omega arith)
  none_by (Rode first last from) row is e = absurd (let z : ◌≡◌ {A = ℕ} 0 1 = cc in omega arith)

  -- what is read of a last leg is said of the label at its place
  module _ (row : ℕ) (o : Option (SheetLeg × ℕ)) (read : o ≡ last_leg row (get_or ls j l).way) where
    of_label : (p : Option (SheetLeg × ℕ)) → o ≡ p → last_leg row l.way ≡ p
    of_label p is = ap (λ x. last_leg row x.way) e ∙ sym read ∙ is

    pub no_leg : o ≡ None → legs_of ls j ≡ []
    no_leg is = none_by l.way row (λ i. l.way) (of_label None is)

  -- the last leg to a label is the one after those to the label before it
  module _ (row : ℕ) (leg : SheetLeg) (from : ℕ) where
    abbrev pub After : Type 0
    After = (from < j) × ((x : Leg) × ((leg ≡ spelled row x) × (legs_of ls j ≡ legs_of ls from ++ (x ∷ []))))

    after : (x : Leg) (f : ℕ) → ((ts : List (List Leg)) → legs_by l.way ts ≡ get_or ts f [] ++ (x ∷ [])) → f < j → ◌≡◌ {A = Option (SheetLeg × ℕ)} (Some (spelled row x, f)) (Some (leg, from)) → After
    after x f more b s =
        let both : ◌≡◌ {A = SheetLeg × ℕ} (spelled row x, f) (leg, from) = cc in
        let i = ap (λ p. p.1) both in
        (subst (λ (n : ℕ). n < j) i b, (x, (sym (ap (λ p. p.0) both), legs_at ∙ more (traces (take j ls)) ∙ ap (λ xs. xs ++ (x ∷ [])) (legs_before f b) ∙ ap (λ (n : ℕ). legs_of ls n ++ (x ∷ [])) i)))

    by_way : (w : Way) → l.way ≡ w → Earlier j w → last_leg row w ≡ Some (leg, from) → After
    by_way Origin is b s = absurd (let z : ◌≡◌ {A = ℕ} 0 1 = cc in omega arith)
    by_way (Walked path f) is b s = after (walk path) f (λ ts. ap (λ x. legs_by x ts) is) b s
    by_way (Rode first last f) is b s = after (ride first last) f (λ ts. ap (λ x. legs_by x ts) is) b s

    pub leg_after : Backward ls → (o : Option (SheetLeg × ℕ)) → o ≡ last_leg row (get_or ls j l).way → o ≡ Some (leg, from) → After
    leg_after back o read is = by_way l.way (λ i. l.way) (comes_from ls j l back h e) (of_label row o read (Some (leg, from)) is)

-- there is room for the last leg behind those before it
pub leg_room : (before all : List Leg) (x : Leg) (at room : ℕ) → all ≡ before ++ (x ∷ []) → at + length all ≤ room → at + length before + 1 ≤ room
leg_room before all x at room is r = omega (arith, ap length is, length-append before (x ∷ []))

-- one leg more is written behind those to the label before
module _ (row at end : ℕ) (before all : List Leg) (x : Leg) (old mid : List SheetLeg) (is : all ≡ before ++ (x ∷ [])) (e : end ≡ at + length before) (was : mid ≡ pasted at (map (spelled row) before) old) (room : at + length all ≤ length old) where
  longer : length all ≡ length before + 1
  longer = ap length is ∙ simp length-append (omega arith)

  pub leg_end : end + 1 ≡ at + length all
  leg_end = omega (arith, longer)

  pub leg_written : end < length mid → set mid end (spelled row x) ≡ pasted at (map (spelled row) all) old
  leg_written h =
      pasted_more at end (map (spelled row) before) (spelled row x ∷ []) old mid (set mid end (spelled row x)) (e ∙ ap (λ (n : ℕ). at + n) (sym (length-map before (spelled row)))) was (pasted_one end (spelled row x) mid h) (omega (arith, longer))
      ∙ ap (λ l. pasted at l old) (sym (ap (map (spelled row)) is ∙ map-append (spelled row) before (x ∷ [])))
