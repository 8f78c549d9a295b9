-- Walking a chain finds what looking at all finds, and a label written next extends it. Assumes nothing.
use Rattle.std.proofs.Common.{◌≡◌, ℕ, zero, suc, ◌+◌, ◌<◌, ◌≤◌, ◌==◌, Bool, true, false, cond, List, [], ◌∷◌, ◌++◌, length, get_or, drop, set, Some, None, Option, sym, refl, ap, ◌∙◌, subst, arith, drop-cons, length-drop}
use lib.ListN.{length-map}
use Rattle.std.proofs.lemmas.Bool.{eqb-true, eq-eqb}
use Rattle.std.proofs.lemmas.List.{get_or-map}
use Rattle.journeys.specs.declared.label.Label.{Label}
use Rattle.scan.specs.declared.stored_label.StoredLabel.{StoredLabel}
use Rattle.scan.specs.Links.{link, place_of}
use Rattle.scan.specs.Chains.{slot, behind, first_in, last_in, linked_from, labels_in, lead}

-- a link stands for the place that it leads to
pub stands_for : (o : Option ℕ) → place_of (link o) ≡ o
stands_for (Some p) = refl
stands_for None = refl

-- the first place, or else another
abbrev pub or_at : Option ℕ → Option ℕ → Option ℕ
or_at (Some p) o = Some p
or_at None o = o

or_none : (o : Option ℕ) → or_at o None ≡ o
or_none (Some p) = refl
or_none None = refl

-- a place is one of those from lo to hi, if it is there
abbrev pub Within : ℕ → ℕ → Option ℕ → Type 0
Within lo hi (Some p) = (lo ≤ p) × (p < hi)
Within lo hi None = Unit {0}

-- where the last is found, so is the first
abbrev pub Agree : Option ℕ → Option ℕ → Type 0
Agree (Some p) f = (o : Option ℕ) → or_at f o ≡ f
Agree None f = f ≡ None

module _ {X : Type 0} (stop : X → ℕ) where
  pub first_within : (k i : ℕ) (xs : List X) → Within i (i + length xs) (first_in stop k i xs)
  first_within k i [] = tt
  first_within k i (x ∷ xs) = go (slot (stop x) == k) (first_in stop k (suc i) xs) (first_within k (suc i) xs)
    where
      go : (b : Bool) (o : Option ℕ) → Within (suc i) (suc i + length xs) o → Within i (i + suc (length xs)) (cond b (Some i) o)
      go true o w = (omega arith, omega arith)
      go false (Some p) w = (omega (arith, w.0), omega (arith, w.1))
      go false None w = tt

  -- one thing more at the end
  pub first_push : (k i : ℕ) (xs : List X) (c : X) → first_in stop k i (xs ++ (c ∷ [])) ≡ or_at (first_in stop k i xs) (cond (slot (stop c) == k) (Some (i + length xs)) None)
  first_push k i [] c = ap (λ (n : ℕ). cond (slot (stop c) == k) (Some n) None) (let z : i ≡ i + 0 = omega arith in z)
  first_push k i (x ∷ xs) c =
      go (slot (stop x) == k)
      (first_push k (suc i) xs c ∙ ap (λ (n : ℕ). or_at (first_in stop k (suc i) xs) (cond (slot (stop c) == k) (Some n) None)) (let z : suc i + length xs ≡ i + suc (length xs) = omega arith in z))
    where
      go : (b : Bool) → first_in stop k (suc i) (xs ++ (c ∷ [])) ≡ or_at (first_in stop k (suc i) xs) (cond (slot (stop c) == k) (Some (i + suc (length xs))) None)
          → cond b (Some i) (first_in stop k (suc i) (xs ++ (c ∷ []))) ≡ or_at (cond b (Some i) (first_in stop k (suc i) xs)) (cond (slot (stop c) == k) (Some (i + suc (length xs))) None)
      go true more = refl
      go false more = more

  pub last_push : (k : ℕ) (xs : List X) (c : X) → last_in stop k (xs ++ (c ∷ [])) ≡ cond (slot (stop c) == k) (Some (length xs)) (last_in stop k xs)
  last_push k [] c = go (slot (stop c) == k)
    where
      go : (b : Bool) → behind b None ≡ cond b (Some 0) None
      go true = refl
      go false = refl
  last_push k (x ∷ xs) c = ap (behind (slot (stop x) == k)) (last_push k xs c) ∙ go (slot (stop c) == k)
    where
      go : (b : Bool) → behind (slot (stop x) == k) (cond b (Some (length xs)) (last_in stop k xs)) ≡ cond b (Some (suc (length xs))) (behind (slot (stop x) == k) (last_in stop k xs))
      go true = refl
      go false = refl

  pub last_within : (k : ℕ) (xs : List X) → Within 0 (length xs) (last_in stop k xs)
  last_within k [] = tt
  last_within k (x ∷ xs) = go (slot (stop x) == k) (last_in stop k xs) (last_within k xs)
    where
      go : (b : Bool) (o : Option ℕ) → Within 0 (length xs) o → Within 0 (suc (length xs)) (behind b o)
      go b (Some p) w = (omega arith, omega (arith, w.1))
      go true None w = (omega arith, omega arith)
      go false None w = tt

  pub agree : (k i : ℕ) (xs : List X) → Agree (last_in stop k xs) (first_in stop k i xs)
  agree k i [] = refl
  agree k i (x ∷ xs) = go (slot (stop x) == k) (last_in stop k xs) (first_in stop k (suc i) xs) (agree k (suc i) xs)
    where
      go : (b : Bool) (l f : Option ℕ) → Agree l f → Agree (behind b l) (cond b (Some i) f)
      go true (Some p) f a = λ o. refl
      go true None f a = λ o. refl
      go false (Some p) f a = a
      go false None f a = a

pub drop_on : {X : Type 0} (y : X) (ys : List X) (zs : List X) (m : ℕ) → drop m zs ≡ y ∷ ys → drop (suc m) zs ≡ ys
drop_on y ys [] zero d = absurd (let z : ◌≡◌ {A = ℕ} 0 1 = cc in omega arith)
drop_on y ys [] (suc m) d = absurd (let z : ◌≡◌ {A = ℕ} 0 1 = cc in omega arith)
drop_on y ys (z ∷ zs) zero d = cc
drop_on y ys (z ∷ zs) (suc m) d = drop_on y ys zs m d

module _ {X : Type 0} (stop : X → ℕ) (k : ℕ) where
  -- what stands at a place is in the slot
  abbrev pub InSlot : List X → Option ℕ → Type 0
  InSlot xs (Some p) = (x : X) → drop p xs ≡ x ∷ drop (suc p) xs → slot (stop x) ≡ k
  InSlot xs None = Unit {0}

  pub first_in_slot : (xs : List X) (i : ℕ) (ys : List X) → drop i xs ≡ ys → InSlot xs (first_in stop k i ys)
  first_in_slot xs i [] d = tt
  first_in_slot xs i (y ∷ ys) d = go (slot (stop y) == k) refl (first_in_slot xs (suc i) ys (drop_on y ys xs i d))
    where
      go : (b : Bool) → (slot (stop y) == k) ≡ b → InSlot xs (first_in stop k (suc i) ys) → InSlot xs (cond b (Some i) (first_in stop k (suc i) ys))
      go true t more = λ x e. let z : y ≡ x = (let w = sym d ∙ e in cc) in ap (λ w. slot (stop w)) (sym z) ∙ eqb-true (slot (stop y)) k t
      go false t more = more

-- What looks at things in order, and passes over those of other slots.
module _ {X R : Type 0} (stop : X → ℕ) (k : ℕ) (look : ℕ → List X → R) (skip : (i : ℕ) (x : X) (xs : List X) → (slot (stop x) == k) ≡ false → look i (x ∷ xs) ≡ look (suc i) xs) where
  -- what is left to look at from a place on, or from the end
  abbrev pub left_at : List X → Option ℕ → R
  left_at xs (Some p) = look p (drop p xs)
  left_at xs None = look (length xs) []

  to_first : (xs : List X) (i : ℕ) (ys : List X) → drop i xs ≡ ys → i + length ys ≡ length xs → look i ys ≡ left_at xs (first_in stop k i ys)
  to_first xs i [] e n = ap (λ (m : ℕ). look m []) (let z : i ≡ length xs = omega (arith, n) in z)
  to_first xs i (y ∷ ys) e n = go (slot (stop y) == k) refl (to_first xs (suc i) ys (drop_on y ys xs i e) (omega (arith, n)))
    where
      go : (b : Bool) → (slot (stop y) == k) ≡ b → look (suc i) ys ≡ left_at xs (first_in stop k (suc i) ys) → look i (y ∷ ys) ≡ left_at xs (cond b (Some i) (first_in stop k (suc i) ys))
      go true t more = ap (look i) (sym e)
      go false t more = skip i y ys t ∙ more

  -- from a place on, the next is the first of the slot
  pub skips : (xs : List X) (i : ℕ) → i ≤ length xs → look i (drop i xs) ≡ left_at xs (first_in stop k i (drop i xs))
  skips xs i h = to_first xs i (drop i xs) refl (omega (arith, length-drop i xs))

abbrev pub lead_from : {S : Type 0} → Option ℕ → ℕ → List (StoredLabel S) → List (StoredLabel S)
lead_from (Some p) n ys = lead p n ys
lead_from None n ys = ys

module _ {S : Type 0} where
  abbrev pub stop_of : Label S → ℕ
  stop_of l = l.stop

  abbrev pub alone : Label S → StoredLabel S
  alone c = record { label = c; next = link None }

  pub lead_set : (ys : List (StoredLabel S)) (p n : ℕ) (y : StoredLabel S) → p < length ys → y ≡ get_or ys p y → set ys p (record { label = y.label; next = link (Some n) }) ≡ lead p n ys
  lead_set [] p n y h e = absurd (omega (arith, h))
  lead_set (z ∷ ys) zero n y h e = ap {B = List (StoredLabel S)} (λ (w : StoredLabel S). record { label = w.label; next = link (Some n) } ∷ ys) e
  lead_set (z ∷ ys) (suc p) n y h e = ap {B = List (StoredLabel S)} (λ l. z ∷ l) (lead_set ys p n y (omega (arith, h)) e)

  pub labels_linked : (i : ℕ) (ls : List (Label S)) → labels_in (linked_from i ls) ≡ ls
  labels_linked i [] = refl
  labels_linked i (l ∷ ls) = ap {B = List (Label S)} (λ r. l ∷ r) (labels_linked (suc i) ls)

  -- a label is read in its place
  pub label_read : (ys : List (StoredLabel S)) (p : ℕ) (y : StoredLabel S) → p < length ys → y ≡ get_or ys p y → (p < length (labels_in ys)) × (y.label ≡ get_or (labels_in ys) p y.label)
  label_read ys p y h e = (omega (arith, h, length-map ys (λ l. l.label)), ap (λ (w : StoredLabel S). w.label) e ∙ sym (get_or-map (λ l. l.label) ys p y y.label h))

  pub length_linked : (i : ℕ) (ls : List (Label S)) → length (linked_from i ls) ≡ length ls
  length_linked i [] = refl
  length_linked i (l ∷ ls) = ap suc (length_linked (suc i) ls)

  pub drop_linked : (n i : ℕ) (ls : List (Label S)) → drop n (linked_from i ls) ≡ linked_from (n + i) (drop n ls)
  drop_linked zero i ls = ap (λ (m : ℕ). linked_from m ls) (let z : i ≡ 0 + i = omega arith in z)
  drop_linked (suc n) i [] = refl
  drop_linked (suc n) i (l ∷ ls) = drop_linked n (suc i) ls ∙ ap (λ (m : ℕ). linked_from m (drop n ls)) (let z : n + suc i ≡ suc n + i = omega arith in z)

  -- what a label written at place n is to one in slot j
  abbrev pub led : ℕ → ℕ → Label S → Option ℕ
  led j n c = cond (slot c.stop == j) (Some n) None

  -- nothing, to one of another slot
  pub not_led : (j n : ℕ) (c : Label S) (f : Option ℕ) → (j == slot c.stop) ≡ false → or_at f (led j n c) ≡ f
  not_led j n c f t = far (slot c.stop == j) refl
    where
      far : (b : Bool) → (slot c.stop == j) ≡ b → or_at f (cond b (Some n) None) ≡ f
      far true u = absurd (let z : true ≡ false = sym (eq-eqb j (slot c.stop) (sym (eqb-true (slot c.stop) j u))) ∙ t in let w : ◌≡◌ {A = ℕ} 0 1 = cc in omega arith)
      far false u = or_none f

  -- and where the last of the slot leads to it
  relinked : (l c : Label S) (n : ℕ) (f : Option ℕ) (tail : List (StoredLabel S)) (b : Bool) → (slot l.stop == slot c.stop) ≡ b → (o : Option ℕ) → ((slot c.stop ≡ slot l.stop) → Agree o f)
      → ◌≡◌ {A = List (StoredLabel S)} (record { label = l; next = link (or_at f (led (slot l.stop) n c)) } ∷ (lead_from o n tail ++ (alone c ∷ [])))
      (lead_from (behind b o) n (record { label = l; next = link f } ∷ tail) ++ (alone c ∷ []))
  relinked l c n f tail true t (Some p) a =
      λ v. record { label = l; next = link (a (sym (eqb-true (slot l.stop) (slot c.stop) t)) (led (slot l.stop) n c) v) } ∷ (lead p n tail ++ (alone c ∷ []))
  relinked l c n f tail false t (Some p) a = λ v. record { label = l; next = link (not_led (slot l.stop) n c f t v) } ∷ (lead p n tail ++ (alone c ∷ []))
  relinked l c n f tail true t None a =
      let same : slot c.stop ≡ slot l.stop = sym (eqb-true (slot l.stop) (slot c.stop) t) in
      let here : or_at f (led (slot l.stop) n c) ≡ Some n = ap (λ o. or_at o (led (slot l.stop) n c)) (a same) ∙ ap (λ b. cond b (Some n) None) (eq-eqb (slot c.stop) (slot l.stop) same) in
      λ v. record { label = l; next = link (here v) } ∷ (tail ++ (alone c ∷ []))
  relinked l c n f tail false t None a = λ v. record { label = l; next = link (not_led (slot l.stop) n c f t v) } ∷ (tail ++ (alone c ∷ []))

  -- a label written next is led to from the last in its slot
  pub linked_push : (i : ℕ) (ls : List (Label S)) (c : Label S) → linked_from i (ls ++ (c ∷ [])) ≡ lead_from (last_in stop_of (slot c.stop) ls) (i + length ls) (linked_from i ls) ++ (alone c ∷ [])
  linked_push i [] c = refl
  linked_push i (l ∷ ls) c =
      let n : suc i + length ls ≡ i + suc (length ls) = omega arith in
      (λ v. record { label = l; next = link (first_push stop_of (slot l.stop) (suc i) ls c v) } ∷ linked_push (suc i) ls c v)
      ∙ relinked l c (suc i + length ls) (first_in stop_of (slot l.stop) (suc i) ls) (linked_from (suc i) ls) (slot l.stop == slot c.stop) refl (last_in stop_of (slot c.stop) ls)
      (λ same. subst (λ (k : ℕ). Agree (last_in stop_of (slot c.stop) ls) (first_in stop_of k (suc i) ls)) same (agree stop_of (slot c.stop) (suc i) ls))
      ∙ ap (λ (m : ℕ). lead_from (last_in stop_of (slot c.stop) (l ∷ ls)) m (linked_from i (l ∷ ls)) ++ (alone c ∷ [])) n

  -- a place of a linked store
  pub linked_here : (ls : List (Label S)) (p : ℕ) (y : StoredLabel S) → p < length ls → y ≡ get_or (linked_from 0 ls) p y
      → (drop p ls ≡ y.label ∷ drop (suc p) ls) × (place_of y.next ≡ first_in stop_of (slot y.label.stop) (suc p) (drop (suc p) ls))
  linked_here ls p y h e = go (drop p ls) refl
    where
      here : drop p (linked_from 0 ls) ≡ y ∷ drop (suc p) (linked_from 0 ls)
      here = drop-cons (linked_from 0 ls) p y (omega (arith, h, length_linked 0 ls)) ∙ ap (λ z. z ∷ drop (suc p) (linked_from 0 ls)) (sym e)

      as_linked : (rest : List (Label S)) → drop p ls ≡ rest → linked_from p rest ≡ y ∷ drop (suc p) (linked_from 0 ls)
      as_linked rest d = (λ v. linked_from ((let z : p ≡ p + 0 = omega arith in z) v) (sym d v)) ∙ sym (drop_linked p 0 ls) ∙ here

      go : (rest : List (Label S)) → drop p ls ≡ rest → (drop p ls ≡ y.label ∷ drop (suc p) ls) × (place_of y.next ≡ first_in stop_of (slot y.label.stop) (suc p) (drop (suc p) ls))
      go [] d = absurd (let z : ◌≡◌ {A = List (StoredLabel S)} [] (y ∷ drop (suc p) (linked_from 0 ls)) = as_linked [] d in let w : ◌≡◌ {A = ℕ} 0 1 = cc in omega arith)
      go (l ∷ more) d =
          let is : record { label = l; next = link (first_in stop_of (slot l.stop) (suc p) more) } ≡ y = let z = as_linked (l ∷ more) d in cc in
          let rest : drop (suc p) ls ≡ more = drop_on l more ls p d in (
            d ∙ (λ v. (is v).label ∷ sym rest v),
            sym (ap (λ (z : StoredLabel S). place_of z.next) is) ∙ stands_for (first_in stop_of (slot l.stop) (suc p) more) ∙ (λ v. first_in stop_of (slot (is v).label.stop) (suc p) (sym rest v)),
          )
