-- Loops that walk a chain: what is left to do from a place on is what the whole list asks for. Assumes nothing.
use Rattle.std.proofs.Common.{◌≡◌, ℕ, suc, ◌+◌, ◌-◌, ◌<◌, ◌==◌, ◌||◌, Bool, true, false, List, ◌∷◌, length, drop, Some, None, Option, sym, refl, ap, ◌∙◌, subst, arith, length-drop}
use Rattle.std.specs.List.{list_any}
use Rattle.journeys.specs.Runs.{Run, on, and_then, run_each}
use Rattle.scan.specs.Chains.{slot, first_in}
use Rattle.scan.proofs.Chains.{Within, first_within, InSlot, first_in_slot, left_at, skips}

-- how far it is from a place to the end
abbrev pub remaining : ℕ → Option ℕ → ℕ
remaining n (Some p) = suc (n - p)
remaining n None = 0

module _ {A : Type 0} (stop : A → ℕ) (k : ℕ) where
  pub next_within : (xs : List A) (p : ℕ) → p < length xs → Within 0 (length xs) (first_in stop k (suc p) (drop (suc p) xs))
  next_within xs p h = go (first_in stop k (suc p) (drop (suc p) xs)) (first_within stop k (suc p) (drop (suc p) xs))
    where
      go : (o : Option ℕ) → Within (suc p) (suc p + length (drop (suc p) xs)) o → Within 0 (length xs) o
      go (Some q) w = (omega arith, omega (arith, h, w.1, length-drop (suc p) xs))
      go None w = tt

  pub from_first : (xs : List A) → Within 0 (length xs) (first_in stop k 0 xs)
  from_first xs = subst (λ (n : ℕ). Within 0 n (first_in stop k 0 xs)) (let z : 0 + length xs ≡ length xs = omega arith in z) (first_within stop k 0 xs)

  -- the next of what stands at a place is the next of the slot
  in_slot : (xs : List A) (p : ℕ) (x : A) → InSlot stop k xs (Some p) → drop p xs ≡ x ∷ drop (suc p) xs → (next : Option ℕ) → next ≡ first_in stop (slot (stop x)) (suc p) (drop (suc p) xs) → next ≡ first_in stop k (suc p) (drop (suc p) xs)
  in_slot xs p x lies e next n = n ∙ ap (λ (j : ℕ). first_in stop j (suc p) (drop (suc p) xs)) (lies x e)

  nearer_first : (xs : List A) (p j : ℕ) → p < length xs → remaining (length xs) (first_in stop j (suc p) (drop (suc p) xs)) < remaining (length xs) (Some p)
  nearer_first xs p j h = go (first_in stop j (suc p) (drop (suc p) xs)) (first_within stop j (suc p) (drop (suc p) xs))
    where
      go : (o : Option ℕ) → Within (suc p) (suc p + length (drop (suc p) xs)) o → remaining (length xs) o < remaining (length xs) (Some p)
      go (Some q) w = omega (arith, h, w.0, w.1, length-drop (suc p) xs)
      go None w = omega arith

  pub nearer : (xs : List A) (p j : ℕ) → p < length xs → (next : Option ℕ) → next ≡ first_in stop j (suc p) (drop (suc p) xs) → remaining (length xs) next < remaining (length xs) (Some p)
  nearer xs p j h next n = subst (λ o. remaining (length xs) o < remaining (length xs) (Some p)) (sym n) (nearer_first xs p j h)

-- A search through a chain, by a test that implies the slot.
module _ {A : Type 0} (stop : A → ℕ) (k : ℕ) (test : A → Bool) (implies : (x : A) → (slot (stop x) == k) ≡ false → test x ≡ false) where
  pub pass : (i : ℕ) (x : A) (xs : List A) → (slot (stop x) == k) ≡ false → list_any test (x ∷ xs) ≡ list_any test xs
  pass i x xs t = ap (λ b. b || list_any test xs) (implies x t)

  -- nothing is found before a place
  pub record Seeking (xs : List A) (at : Option ℕ) : Type 0 where
    pub rest : list_any test xs ≡ left_at stop k (λ i ys. list_any test ys) pass xs at
    pub inside : Within 0 (length xs) at
    pub lies : InSlot stop k xs at

  pub seek : (xs : List A) → Seeking xs (first_in stop k 0 xs)
  seek xs = record {
    rest = skips stop k (λ i ys. list_any test ys) pass xs 0 (omega arith);
    inside = from_first stop k xs;
    lies = first_in_slot stop k xs 0 xs refl;
  }

  pub found : (xs : List A) (p : ℕ) (x : A) → Seeking xs (Some p) → drop p xs ≡ x ∷ drop (suc p) xs → test x ≡ true → true ≡ list_any test xs
  found xs p x s e t = sym (s.rest ∙ ap (list_any test) e ∙ ap (λ b. b || list_any test (drop (suc p) xs)) t)

  pub seeks_on : (xs : List A) (p : ℕ) (x : A) (next : Option ℕ) → Seeking xs (Some p) → drop p xs ≡ x ∷ drop (suc p) xs → test x ≡ false → next ≡ first_in stop (slot (stop x)) (suc p) (drop (suc p) xs) → Seeking xs next
  seeks_on xs p x next s e t n = subst (Seeking xs) (sym (in_slot stop k xs p x s.lies e next n)) (record {
    rest = s.rest ∙ ap (list_any test) e ∙ ap (λ b. b || list_any test (drop (suc p) xs)) t ∙ skips stop k (λ i ys. list_any test ys) pass xs (suc p) (omega (arith, s.inside.1));
    inside = next_within stop k xs p s.inside.1;
    lies = first_in_slot stop k xs (suc p) (drop (suc p) xs) refl;
  })

-- A loop along a chain, which does nothing where the slot is another. What it changes is seen as a list, for which there is so
-- much room.
module _ {A X St : Type 0} (stop : A → ℕ) (k : ℕ) (view : St → List X) (room : St → ℕ) (Keeps : St → St → Type 0)
    (same_room : (a b : St) → Keeps a b → room b ≡ room a) (keeps_then : (a b c : St) → Keeps a b → Keeps b c → Keeps a c)
    (f : ℕ → ℕ → A → List X → Run (List X)) (idle : (r i : ℕ) (x : A) (s : List X) → (slot (stop x) == k) ≡ false → f r i x s ≡ on s) where
  pub look_on : (r : ℕ) (s : List X) (i : ℕ) (x : A) (xs : List A) → (slot (stop x) == k) ≡ false → run_each (f r) i (x ∷ xs) s ≡ run_each (f r) (suc i) xs s
  look_on r s i x xs t = ap (λ b. and_then b (run_each (f r) (suc i) xs)) (idle r i x s t)

  -- so far, what stands before a place has been gone over
  pub record Along (start now : St) (xs : List A) (at : Option ℕ) : Type 0 where
    pub rest : run_each (f (room start)) 0 xs (view start) ≡ left_at stop k (λ i ys. run_each (f (room start)) i ys (view now)) (look_on (room start) (view now)) xs at
    pub kept : Keeps start now
    pub inside : Within 0 (length xs) at
    pub lies : InSlot stop k xs at

  pub sets_out : (start : St) (xs : List A) → Keeps start start → Along start start xs (first_in stop k 0 xs)
  sets_out start xs kept = record {
    rest = skips stop k (λ i ys. run_each (f (room start)) i ys (view start)) (look_on (room start) (view start)) xs 0 (omega arith);
    kept = kept;
    inside = from_first stop k xs;
    lies = first_in_slot stop k xs 0 xs refl;
  }

  here : (start mid : St) (xs : List A) (p : ℕ) (x : A) (r : Run (List X)) → Along start mid xs (Some p) → drop p xs ≡ x ∷ drop (suc p) xs → f (room mid) p x (view mid) ≡ r
      → run_each (f (room start)) 0 xs (view start) ≡ and_then r (run_each (f (room start)) (suc p) (drop (suc p) xs))
  here start mid xs p x r s e t =
      s.rest ∙ ap (λ l. run_each (f (room start)) p l (view mid)) e
      ∙ ap (λ b. and_then b (run_each (f (room start)) (suc p) (drop (suc p) xs))) ((λ v. f (sym (same_room start mid s.kept) v) p x (view mid)) ∙ t)

  pub walks_on : (start mid new : St) (xs : List A) (p : ℕ) (x : A) (next : Option ℕ) → Along start mid xs (Some p) → drop p xs ≡ x ∷ drop (suc p) xs → f (room mid) p x (view mid) ≡ on (view new) → Keeps mid new
      → next ≡ first_in stop (slot (stop x)) (suc p) (drop (suc p) xs) → Along start new xs next
  walks_on start mid new xs p x next s e t k' n = subst (Along start new xs) (sym (in_slot stop k xs p x s.lies e next n)) (record {
    rest = here start mid xs p x (on (view new)) s e t ∙ skips stop k (λ i ys. run_each (f (room start)) i ys (view new)) (look_on (room start) (view new)) xs (suc p) (omega (arith, s.inside.1));
    kept = keeps_then start mid new s.kept k';
    inside = next_within stop k xs p s.inside.1;
    lies = first_in_slot stop k xs (suc p) (drop (suc p) xs) refl;
  })
