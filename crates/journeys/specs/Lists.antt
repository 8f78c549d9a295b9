-- Folds with each element's place, and what holds of some or of each element.
-- Assumes nothing.
use Rattle.std.specs.List.{list_any}
use Rattle.std.specs.Prelude.{ℕ, suc, Bool, ◌⊎◌, List, [], ◌∷◌}

-- from the left, with each element's place; the list begins at place i
abbrev pub foldi : {A B : Type 0} → (ℕ → A → B → B) → ℕ → List A → B → B
foldi f i [] b = b
foldi f i (x ∷ xs) b = foldi f (suc i) xs (f i x b)

-- some element passes the test
abbrev pub any : {A : Type 0} → (A → Bool) → List A → Bool
any = list_any

-- some element is such
abbrev pub Somewhere : {A : Type 0} → (A → Type 0) → List A → Type 0
Somewhere P [] = ⊥
Somewhere P (x ∷ xs) = P x ⊎ Somewhere P xs

-- every element is such
abbrev pub Each : {A : Type 0} → (A → Type 0) → List A → Type 0
Each P [] = Unit {0}
Each P (x ∷ xs) = P x × Each P xs

-- every element is such at its place; the list begins at place i
abbrev pub Eachi : {A : Type 0} → (ℕ → A → Type 0) → ℕ → List A → Type 0
Eachi P i [] = Unit {0}
Eachi P i (x ∷ xs) = P i x × Eachi P (suc i) xs
