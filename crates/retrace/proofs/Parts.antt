-- The steps of a journey that is one leg longer, and of a part of one.
use Rattle.std.proofs.Common.{◌≡◌, ℕ, zero, suc, ◌+◌, ◌-◌, ◌≤◌, List, [], ◌∷◌, ◌++◌, map, length, get_or, take, drop, Some, sym, refl, ap, ◌∙◌, subst, inl, inr, append_assoc, append-nil, add-one, arith, length-append}
use Rattle.std.specs.List.{slice_get}
use lib.ListN.{length-map}
use Rattle.std.proofs.lemmas.List.{map-append, take_more, take_all}
use Rattle.std.proofs.lemmas.Bool.{cases_lt}
use Rattle.journeys.specs.declared.leg.Leg.{Leg as SheetLeg}
use Rattle.journeys.specs.declared.leg.LegKind.{LegKind}
use Rattle.journeys.specs.declared.leg.LegKind.TheVariants.{Walk, Ride}
use Rattle.journeys.specs.Journey.{Setup, Place, Leg, walk, ride, after, end, start, last, RideOk, LegOk, LegsOk, Journey}
use Rattle.journeys.specs.Lists.{Each}
use Rattle.journeys.specs.Traces.{spelled}
use Rattle.journeys.proofs.Lists.{each_append, each_map}
use Rattle.journeys.proofs.Traces.{end_push, ok_push}
use Rattle.retrace.specs.declared.step.Step.{Step}
use Rattle.retrace.specs.Missteps.{leg_by, leg_meant}
use Rattle.retrace.specs.Steps.{step_at, rides_from, stretches, parts_after, parts_of, steps_of, leg_steps}
use Rattle.retrace.proofs.Riding.{length_rides}

-- what is behind the last of a list's elements is not looked at
pub get_last : {A : Type 0} (xs : List A) (x : A) (more : List A) (m : ℕ) → suc m ≡ length (xs ++ (x ∷ [])) → slice_get ((xs ++ (x ∷ [])) ++ more) m ≡ Some x
get_last [] x more zero e = refl
get_last [] x more (suc m) e = absurd (omega arith)
get_last (y ∷ xs) x more zero e = absurd (omega (arith, length-append xs (x ∷ [])))
get_last (y ∷ xs) x more (suc m) e = get_last xs x more m (omega arith)

-- the legs before the last
ok_last : {S : Type 0} (w : Setup S) (p : Place S) (ls : List Leg) (l : Leg) → LegsOk w p (ls ++ (l ∷ [])) → LegOk w (end w p ls) l
ok_last w p [] l o = o.0
ok_last w p (k ∷ ls) l o = ok_last w (after w p k) ls l o.1

pub journey_last : {S : Type 0} (w : Setup S) (ls : List Leg) (l : Leg) → Journey w (ls ++ (l ∷ [])) → LegOk w (last w ls) l
journey_last w ls l o = ok_last w (start w) ls l o

pub legs_take : {S : Type 0} (w : Setup S) (p : Place S) (n : ℕ) (ls : List Leg) → LegsOk w p ls → LegsOk w p (take n ls)
legs_take w p zero ls o = tt
legs_take w p (suc n) [] o = tt
legs_take w p (suc n) (l ∷ ls) o = (o.0, legs_take w (after w p l) n ls o.1)

-- a leg has one ride at most
pub rides_after : {S : Type 0} (w : Setup S) (p : Place S) (l : Leg) → (after w p l).rides ≤ suc p.rides
rides_after w p (walk i) = omega arith
rides_after w p (ride a b) = omega arith

-- the stretches of a leg but the whole of it
abbrev shorter : Leg → List Leg
shorter (walk i) = []
shorter (ride a b) = rides_from a (b - a)

pub parts_push : (b ls : List Leg) (l : Leg) → parts_after b (ls ++ (l ∷ [])) ≡ parts_after b ls ++ map (λ x. (b ++ ls) ++ (x ∷ [])) (stretches l)
parts_push b [] l = append-nil (map (λ x. b ++ (x ∷ [])) (stretches l)) ∙ ap (λ (c : List Leg). map (λ x. c ++ (x ∷ [])) (stretches l)) (sym (append-nil b))
parts_push b (k ∷ ls) l =
    ap (λ m. map (λ x. b ++ (x ∷ [])) (stretches k) ++ m) (parts_push (b ++ (k ∷ [])) ls l)
    ∙ sym (append_assoc (map (λ x. b ++ (x ∷ [])) (stretches k)) (parts_after (b ++ (k ∷ [])) ls) (map (λ x. ((b ++ (k ∷ [])) ++ ls) ++ (x ∷ [])) (stretches l)))
    ∙ ap (λ (c : List Leg). parts_after b (k ∷ ls) ++ map (λ x. c ++ (x ∷ [])) (stretches l)) (append_assoc b (k ∷ []) ls)

-- the parts up to a leg, and then the others
parts_split : (b : List Leg) (n : ℕ) (ls : List Leg) → parts_after b ls ≡ parts_after b (take n ls) ++ parts_after (b ++ take n ls) (drop n ls)
parts_split b zero ls = ap (λ (c : List Leg). parts_after c ls) (sym (append-nil b))
parts_split b (suc n) [] = refl
parts_split b (suc n) (l ∷ ls) =
    let first = map (λ x. b ++ (x ∷ [])) (stretches l) in
    ap (λ ps. first ++ ps) (parts_split (b ++ (l ∷ [])) n ls)
    ∙ sym (append_assoc first (parts_after (b ++ (l ∷ [])) (take n ls)) (parts_after ((b ++ (l ∷ [])) ++ take n ls) (drop n ls)))
    ∙ ap (λ (c : List Leg). (first ++ parts_after (b ++ (l ∷ [])) (take n ls)) ++ parts_after c (drop n ls)) (append_assoc b (l ∷ []) (take n ls))

pub parts_fewer : (b : List Leg) (n : ℕ) (ls : List Leg) → length (parts_after b (take n ls)) ≤ length (parts_after b ls)
parts_fewer b zero ls = omega arith
parts_fewer b (suc n) [] = omega arith
parts_fewer b (suc n) (l ∷ ls) =
    let first = map (λ x. b ++ (x ∷ [])) (stretches l) in
    omega (arith, length-append first (parts_after (b ++ (l ∷ [])) (take n ls)), length-append first (parts_after (b ++ (l ∷ [])) ls), parts_fewer (b ++ (l ∷ [])) n ls)

-- how many steps a leg has that is spelled as a leg
steps_by : (kind : LegKind) (row first last : ℕ) → ◌≡◌ {A = SheetLeg} (record { row = row; kind = kind; first = first; last = last }) (spelled row (leg_by kind first last)) → length (stretches (leg_by kind first last)) ≡ last - first + 1
steps_by Walk row first last e = let same : last ≡ first = ap (λ s. s.last) e in omega arith
steps_by Ride row first last e = length_rides first (suc (last - first)) ∙ omega arith

module _ {S : Type 0} (w : Setup S) where
  pub leg_length : (p : Place S) (s : SheetLeg) → s ≡ spelled s.row (leg_meant s) → length (leg_steps w p (leg_meant s)) ≡ s.last - s.first + 1
  leg_length p s e = length-map (stretches (leg_meant s)) (λ x. step_at w.fare (after w p x)) ∙ steps_by s.kind s.row s.first s.last e

  shown_on : (ls xs : List Leg) → map (λ part. step_at w.fare (last w part)) (map (λ x. ls ++ (x ∷ [])) xs) ≡ map (λ x. step_at w.fare (after w (last w ls) x)) xs
  shown_on ls [] = refl
  shown_on ls (x ∷ xs) =
      let first = end_push {S = S} w (start w) ls x in
      let rest = shown_on ls xs in
      λ i. step_at w.fare (first i) ∷ rest i

  -- one leg more has its steps behind the others
  pub steps_push : (ls : List Leg) (l : Leg) → steps_of w (ls ++ (l ∷ [])) ≡ steps_of w ls ++ leg_steps w (last w ls) l
  steps_push ls l =
      ap (map (λ part. step_at w.fare (last w part))) (parts_push [] ls l)
      ∙ map-append (λ part. step_at w.fare (last w part)) (parts_of ls) (map (λ x. ls ++ (x ∷ [])) (stretches l))
      ∙ ap (λ m. steps_of w ls ++ m) (shown_on ls (stretches l))

  pub steps_fewer : (n : ℕ) (ls : List Leg) → length (steps_of w (take n ls)) ≤ length (steps_of w ls)
  steps_fewer n ls = simp length-map (parts_fewer [] n ls)

  stretches_end : (p : Place S) (l : Leg) → LegOk w p l → stretches l ≡ shorter l ++ (l ∷ [])
  stretches_end p (walk i) o = refl
  stretches_end p (ride a b) o =
      let to : a + (b - a) ≡ b = omega (arith, o.forth) in
      ap (λ k. rides_from a (b - a) ++ (ride a k ∷ [])) to

  -- the last step of a journey is where it ends
  steps_end : (ls : List Leg) (l : Leg) → LegOk w (last w ls) l → (more : List (Step S)) (m : ℕ) → suc m ≡ length (steps_of w (ls ++ (l ∷ []))) → slice_get (steps_of w (ls ++ (l ∷ [])) ++ more) m ≡ Some (step_at w.fare (last w (ls ++ (l ∷ []))))
  steps_end ls l o more m e =
      let there = λ (x : Leg). step_at w.fare (after w (last w ls) x) in
      let front = steps_of w ls ++ map there (shorter l) in
      let split : steps_of w (ls ++ (l ∷ [])) ≡ front ++ (there l ∷ []) =
      steps_push ls l
      ∙ ap (λ xs. steps_of w ls ++ map there xs) (stretches_end (last w ls) l o)
      ∙ ap (λ xs. steps_of w ls ++ xs) (map-append there (shorter l) (l ∷ []))
      ∙ sym (append_assoc (steps_of w ls) (map there (shorter l)) (there l ∷ [])) in
      ap (λ xs. slice_get (xs ++ more) m) split
      ∙ get_last front (there l) more m (e ∙ ap length split)
      ∙ ap (λ q. Some (step_at w.fare q)) (sym (end_push {S = S} w (start w) ls l))

  -- the last step of the first n legs is where these end
  first_lead : (ls : List Leg) → Journey w ls → (more : List (Step S)) (n i : ℕ) → suc i ≡ length (steps_of w (take n ls)) → slice_get (steps_of w (take n ls) ++ more) i ≡ Some (step_at w.fare (last w (take n ls)))
  first_lead ls o more zero i e = absurd (omega arith)
  first_lead ls o more (suc n) i e = elim (cases_lt n (length ls)) [
    | inl h ↦
        let l = get_or ls n (walk 0) in
        let split : take (suc n) ls ≡ take n ls ++ (l ∷ []) = ap (λ (k : ℕ). take k ls) (sym (add-one n)) ∙ take_more ls n (walk 0) h in
        let ok = subst (λ (xs : List Leg). Journey w xs) split (legs_take w (start w) (suc n) ls o) in
        ap (λ (xs : List Leg). slice_get (steps_of w xs ++ more) i) split
        ∙ steps_end (take n ls) l (journey_last w (take n ls) l ok) more i (e ∙ ap (λ (xs : List Leg). length (steps_of w xs)) split)
        ∙ ap (λ (xs : List Leg). Some (step_at w.fare (last w xs))) (sym split)
    | inr h ↦
        let same : take (suc n) ls ≡ take n ls = take_all (suc n) ls (omega arith) ∙ sym (take_all n ls h) in
        ap (λ (xs : List Leg). slice_get (steps_of w xs ++ more) i) same
        ∙ first_lead ls o more n i (e ∙ ap (λ (xs : List Leg). length (steps_of w xs)) same)
        ∙ ap (λ (xs : List Leg). Some (step_at w.fare (last w xs))) (sym same)
  ]

  pub steps_lead : (ls : List Leg) → Journey w ls → (more : List (Step S)) (n i : ℕ) → suc i ≡ length (steps_of w (take n ls)) → slice_get (steps_of w ls ++ more) i ≡ Some (step_at w.fare (last w (take n ls)))
  steps_lead ls o more n i e =
      let rest = map (λ part. step_at w.fare (last w part)) (parts_after (take n ls) (drop n ls)) in
      let split : steps_of w ls ≡ steps_of w (take n ls) ++ rest =
      ap (map (λ part. step_at w.fare (last w part))) (parts_split [] n ls)
      ∙ map-append (λ part. step_at w.fare (last w part)) (parts_of (take n ls)) (parts_after (take n ls) (drop n ls)) in
      ap (λ (xs : List (Step S)). slice_get (xs ++ more) i) split
      ∙ ap (λ (xs : List (Step S)). slice_get xs i) (append_assoc (steps_of w (take n ls)) rest more)
      ∙ first_lead ls o (rest ++ more) n i e

  -- a ride as far as one of its hops
  ride_part : (p : Place S) (a b n : ℕ) → RideOk w p a b → a + n ≤ b → RideOk w p a (a + n)
  ride_part p a b n o h = record {
    forth = omega arith;
    is = omega (arith, o.is);
    here = o.here;
    later = o.later;
    running = λ j from upto. o.running j from (omega arith);
    one_trip = λ j from upto. o.one_trip j from (omega arith);
  }

  rides_parts : (p : Place S) (a b n : ℕ) → RideOk w p a b → a + n ≤ suc b → Each (LegOk w p) (rides_from a n)
  rides_parts p a b zero o h = tt
  rides_parts p a b (suc n) o h = each_append (LegOk w p) (rides_from a n) (ride a (a + n) ∷ []) (rides_parts p a b n o (omega arith)) (ride_part p a b n o (omega arith), tt)

  stretches_ok : (p : Place S) (l : Leg) → LegOk w p l → Each (LegOk w p) (stretches l)
  stretches_ok p (walk i) o = (o, tt)
  stretches_ok p (ride a b) o = rides_parts p a b (suc (b - a)) o (omega (arith, o.forth))

  parts_ok : (b ls : List Leg) → Journey w b → LegsOk w (last w b) ls → Each (Journey w) (parts_after b ls)
  parts_ok b [] o k = tt
  parts_ok b (l ∷ ls) o k =
      let next : Journey w (b ++ (l ∷ [])) = ok_push {S = S} w (start w) b l o k.0 in
      each_append (Journey w) (map (λ x. b ++ (x ∷ [])) (stretches l)) (parts_after (b ++ (l ∷ [])) ls)
      (each_map (LegOk w (last w b)) (Journey w) (λ x. b ++ (x ∷ [])) (λ x q. ok_push {S = S} w (start w) b x o q) (stretches l) (stretches_ok (last w b) l k.0))
      (parts_ok (b ++ (l ∷ [])) ls next (subst (λ (q : Place S). LegsOk w q ls) (sym (end_push {S = S} w (start w) b l)) k.1))

  -- each part of a journey is a journey
  pub parts_journeys : (ls : List Leg) → Journey w ls → Each (Journey w) (parts_of ls)
  parts_journeys ls o = parts_ok [] ls tt o
