-- What is said of a value where it is known.
use Rattle.std.proofs.Common.{◌≡◌, Option, Some, None, IfSome, refl, subst}

pub where_known : {A : Type 0} (o : Option A) (P : A → Type 0) → ((x : A) → o ≡ Some x → P x) → IfSome o P
where_known None P h = tt
where_known (Some x) P h = h x refl

pub known : {A : Type 0} {o : Option A} (P : A → Type 0) (x : A) → o ≡ Some x → IfSome o P → P x
known P x e h = subst (λ o. IfSome o P) e h
