-- What the scan's proofs say of lists. Assumes nothing.
use Rattle.std.proofs.Common.{◌≡◌, ℕ, zero, suc, ◌+◌, ◌<◌, Bool, true, ◌⊎◌, List, [], ◌∷◌, ◌++◌, map, length, get_or, sym, refl, ap, ◌∙◌, subst, inl, inr, ⊎_elim, append_assoc, append-nil, le_of_suc-le-suc, not-suc-le-zero, zero-add, arith}
use Rattle.std.proofs.lemmas.Bool.{or_cases}
use Rattle.journeys.specs.Lists.{foldi, any, Somewhere, Each, Eachi}

module _ {A : Type 0} where
  pub some_imp : (P Q : A → Type 0) → ((x : A) → P x → Q x) → (xs : List A) → Somewhere P xs → Somewhere Q xs
  some_imp P Q h [] s = s
  some_imp P Q h (x ∷ xs) (inl p) = inl (h x p)
  some_imp P Q h (x ∷ xs) (inr s) = inr (some_imp P Q h xs s)

  pub some_left : (P : A → Type 0) (xs ys : List A) → Somewhere P xs → Somewhere P (xs ++ ys)
  some_left P [] ys s = absurd s
  some_left P (x ∷ xs) ys (inl p) = inl p
  some_left P (x ∷ xs) ys (inr s) = inr (some_left P xs ys s)

  pub some_right : (P : A → Type 0) (xs ys : List A) → Somewhere P ys → Somewhere P (xs ++ ys)
  some_right P [] ys s = s
  some_right P (x ∷ xs) ys s = inr (some_right P xs ys s)

  pub some_cases : (P : A → Type 0) (xs ys : List A) → Somewhere P (xs ++ ys) → Somewhere P xs ⊎ Somewhere P ys
  some_cases P [] ys s = inr s
  some_cases P (x ∷ xs) ys (inl p) = inl (inl p)
  some_cases P (x ∷ xs) ys (inr s) = elim (some_cases P xs ys s) [ inl t ↦ inl (inr t) | inr t ↦ inr t ]

  pub some_each : (P Q : A → Type 0) (xs : List A) → Each P xs → Somewhere Q xs → Somewhere (λ x. P x × Q x) xs
  some_each P Q [] e s = s
  some_each P Q (x ∷ xs) e (inl q) = inl (e.0, q)
  some_each P Q (x ∷ xs) e (inr s) = inr (some_each P Q xs e.1 s)

  pub some_get : (P : A → Type 0) (xs : List A) → Somewhere P xs → (x : A) × P x
  some_get P [] s = absurd s
  some_get P (x ∷ xs) (inl p) = (x, p)
  some_get P (x ∷ xs) (inr s) = some_get P xs s

  pub some_at : (P : A → Type 0) (xs : List A) (i : ℕ) (d : A) → i < length xs → P (get_or xs i d) → Somewhere P xs
  some_at P [] i d h p = absurd (not-suc-le-zero h)
  some_at P (x ∷ xs) zero d h p = inl p
  some_at P (x ∷ xs) (suc i) d h p = inr (some_at P xs i d (le_of_suc-le-suc h) p)

  pub any_some : (t : A → Bool) (xs : List A) → any t xs ≡ true → Somewhere (λ x. t x ≡ true) xs
  any_some t [] e = let z : ◌≡◌ {A = ℕ} 0 1 = cc in omega arith
  any_some t (x ∷ xs) e = ⊎_elim inl (λ r. inr (any_some t xs r)) (or_cases (t x) (any t xs) e)

  pub each_append : (P : A → Type 0) (xs ys : List A) → Each P xs → Each P ys → Each P (xs ++ ys)
  each_append P [] ys e g = g
  each_append P (x ∷ xs) ys e g = (e.0, each_append P xs ys e.1 g)

pub some_map : {A B : Type 0} (P : A → Type 0) (Q : B → Type 0) (f : A → B) → ((x : A) → P x → Q (f x)) → (xs : List A) → Somewhere P xs → Somewhere Q (map f xs)
some_map P Q f h [] s = absurd s
some_map P Q f h (x ∷ xs) (inl p) = inl (h x p)
some_map P Q f h (x ∷ xs) (inr s) = inr (some_map P Q f h xs s)

module _ {A B : Type 0} (f : ℕ → A → B → B) where
  pub foldi_keeps : (Q : B → Type 0) → ((i : ℕ) (x : A) (b : B) → Q b → Q (f i x b)) → (i : ℕ) (xs : List A) (b : B) → Q b → Q (foldi f i xs b)
  foldi_keeps Q keep i [] b q = q
  foldi_keeps Q keep i (x ∷ xs) b q = foldi_keeps Q keep (suc i) xs (f i x b) (keep i x b q)

  -- an element that is P makes it Q, and Q lasts
  pub foldi_finds : (P : A → Type 0) (Q : B → Type 0) → ((i : ℕ) (x : A) (b : B) → P x → Q (f i x b)) → ((i : ℕ) (x : A) (b : B) → Q b → Q (f i x b)) → (i : ℕ) (xs : List A) (b : B) → Somewhere P xs → Q (foldi f i xs b)
  foldi_finds P Q find keep i [] b s = absurd s
  foldi_finds P Q find keep i (x ∷ xs) b (inl p) = foldi_keeps Q keep (suc i) xs (f i x b) (find i x b p)
  foldi_finds P Q find keep i (x ∷ xs) b (inr s) = foldi_finds P Q find keep (suc i) xs (f i x b) s

-- a list that has grown by elements that are P
pub record Grown {A : Type 0} (P : A → Type 0) (xs ys : List A) : Type 0 where
  pub more : List A
  pub is : ys ≡ xs ++ more
  pub each : Each P more

module _ {A : Type 0} (P : A → Type 0) where
  pub grown_none : (xs : List A) → Grown P xs xs
  grown_none xs = record { more = []; is = sym (append-nil xs); each = tt }

  pub grown_one : (xs : List A) (x : A) → P x → Grown P xs (xs ++ (x ∷ []))
  grown_one xs x p = record { more = x ∷ []; is = refl; each = (p, tt) }

  pub grown_trans : (xs ys zs : List A) → Grown P xs ys → Grown P ys zs → Grown P xs zs
  grown_trans xs ys zs g h = record {
    more = g.more ++ h.more;
    is = h.is ∙ ap (λ l. l ++ h.more) g.is ∙ append_assoc xs g.more h.more;
    each = each_append P g.more h.more g.each h.each;
  }

  pub grown_some : (Q : A → Type 0) (xs ys : List A) → Grown P xs ys → Somewhere Q xs → Somewhere Q ys
  grown_some Q xs ys g s = rw g.is (some_left Q xs g.more s)

  pub grown_cases : (Q : A → Type 0) (xs ys : List A) → Grown P xs ys → Somewhere Q ys → Somewhere Q xs ⊎ Somewhere (λ x. P x × Q x) ys
  grown_cases Q xs ys g s = elim (some_cases Q xs g.more (rw g.is at s)) [ inl t ↦ inl t | inr t ↦ inr (rw g.is (some_right (λ x. P x × Q x) xs g.more (some_each P Q g.more g.each t))) ]

  pub foldi_grown : {B : Type 0} (f : ℕ → B → List A → List A) → ((i : ℕ) (x : B) (s : List A) → Grown P s (f i x s)) → (i : ℕ) (xs : List B) (s : List A) → Grown P s (foldi f i xs s)
  foldi_grown f h i [] s = grown_none s
  foldi_grown f h i (x ∷ xs) s = grown_trans s (f i x s) (foldi f (suc i) xs (f i x s)) (h i x s) (foldi_grown f h (suc i) xs (f i x s))

pub each_imp : {A : Type 0} (P Q : A → Type 0) → ((x : A) → P x → Q x) → (xs : List A) → Each P xs → Each Q xs
each_imp P Q h [] e = e
each_imp P Q h (x ∷ xs) e = (h x e.0, each_imp P Q h xs e.1)

pub grown_imp : {A : Type 0} (P Q : A → Type 0) → ((x : A) → P x → Q x) → (xs ys : List A) → Grown P xs ys → Grown Q xs ys
grown_imp P Q h xs ys g = record { more = g.more; is = g.is; each = each_imp P Q h g.more g.each }

pub foldi_each : {A B : Type 0} (f : ℕ → A → B → B) (P : ℕ → A → Type 0) (Q : B → Type 0) → ((i : ℕ) (x : A) (b : B) → P i x → Q b → Q (f i x b)) → (i : ℕ) (xs : List A) (b : B) → Eachi P i xs → Q b → Q (foldi f i xs b)
foldi_each f P Q keep i [] b e q = q
foldi_each f P Q keep i (x ∷ xs) b e q = foldi_each f P Q keep (suc i) xs (f i x b) e.1 (keep i x b e.0 q)

pub eachi_of : {A : Type 0} (P : A → Type 0) (i : ℕ) (xs : List A) → Each P xs → Eachi (λ _. P) i xs
eachi_of P i [] e = e
eachi_of P i (x ∷ xs) e = (e.0, eachi_of P (suc i) xs e.1)

pub eachi_imp : {A : Type 0} (P Q : ℕ → A → Type 0) → ((i : ℕ) (x : A) → P i x → Q i x) → (i : ℕ) (xs : List A) → Eachi P i xs → Eachi Q i xs
eachi_imp P Q h i [] e = e
eachi_imp P Q h i (x ∷ xs) e = (h i x e.0, eachi_imp P Q h (suc i) xs e.1)

pub eachi_push : {A : Type 0} (P : ℕ → A → Type 0) (i : ℕ) (xs : List A) (x : A) → Eachi P i xs → P (i + length xs) x → Eachi P i (xs ++ (x ∷ []))
eachi_push P i [] x e p = (subst (λ (n : ℕ). P n x) (let z : i + 0 ≡ i = omega arith in z) p, tt)
eachi_push P i (y ∷ xs) x e p = (e.0, eachi_push P (suc i) xs x e.1 (subst (λ (n : ℕ). P n x) (let z : i + suc (length xs) ≡ suc i + length xs = omega arith in z) p))

-- what is at each place below the length
pub eachi_all : {A : Type 0} (P : ℕ → A → Type 0) (i : ℕ) (xs : List A) → ((j : ℕ) (d : A) → j < length xs → P (i + j) (get_or xs j d)) → Eachi P i xs
eachi_all P i [] h = tt
eachi_all P i (x ∷ xs) h = (subst (λ (n : ℕ). P n x) (let z : i + 0 ≡ i = omega arith in z) (h 0 x (omega arith)), eachi_all P (suc i) xs (λ j d k. subst (λ (n : ℕ). P n (get_or xs j d)) (let z : i + suc j ≡ suc i + j = omega arith in z) (h (suc j) d (omega arith))))

pub each_map : {A B : Type 0} (P : A → Type 0) (Q : B → Type 0) (f : A → B) → ((x : A) → P x → Q (f x)) → (xs : List A) → Each P xs → Each Q (map f xs)
each_map P Q f h [] e = e
each_map P Q f h (x ∷ xs) e = (h x e.0, each_map P Q f h xs e.1)

pub get_or_same : {A : Type 0} (xs : List A) (j : ℕ) (d e : A) → j < length xs → get_or xs j d ≡ get_or xs j e
get_or_same [] j d e h = absurd (not-suc-le-zero h)
get_or_same (x ∷ xs) zero d e h = refl
get_or_same (x ∷ xs) (suc j) d e h = get_or_same xs j d e (le_of_suc-le-suc h)

pub eachi_at : {A : Type 0} (xs : List A) (d : A) → Eachi (λ i x. (i < length xs) × (x ≡ get_or xs i d)) 0 xs
eachi_at xs d = eachi_all (λ i x. (i < length xs) × (x ≡ get_or xs i d)) 0 xs (λ j e h. rw zero-add (h, get_or_same xs j e d h))

pub eachi_both : {A : Type 0} (P : ℕ → A → Type 0) (Q : A → Type 0) (i : ℕ) (xs : List A) → Eachi P i xs → Each Q xs → Eachi (λ j x. P j x × Q x) i xs
eachi_both P Q i [] e g = tt
eachi_both P Q i (x ∷ xs) e g = ((e.0, g.0), eachi_both P Q (suc i) xs e.1 g.1)

pub grown_each : {A : Type 0} (P Q : A → Type 0) → ((x : A) → P x → Q x) → (xs ys : List A) → Grown P xs ys → Each Q xs → Each Q ys
grown_each P Q h xs ys g e = rw g.is (each_append Q xs g.more e (each_imp P Q h g.more g.each))

pub some_out : {A : Type 0} (P : A → Type 0) (xs : List A) → Somewhere P xs → (x : A) × P x × Somewhere (λ y. y ≡ x) xs
some_out P [] s = absurd s
some_out P (x ∷ xs) (inl p) = (x, p, inl refl)
some_out P (x ∷ xs) (inr s) = let r = some_out P xs s in (r.0, r.1, inr r.2)
