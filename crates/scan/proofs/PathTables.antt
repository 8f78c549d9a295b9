-- A table of footpaths as it is built from the back, and what it says of all footpaths. Assumes nothing.
use Rattle.std.proofs.Common.{◌≡◌, ℕ, zero, suc, ◌+◌, ◌-◌, ◌<◌, ◌≤◌, ◌==◌, ◌⊎◌, Bool, true, false, cond, List, [], ◌∷◌, length, get_or, take, drop, set, Some, None, Option, sym, refl, ap, ◌∙◌, inl, inr, arith}
use Rattle.std.proofs.lemmas.Bool.{eq-eqb, cases_eq}
use Rattle.std.proofs.lemmas.List.{drop-drop, drop-take, drop_all, get_or-set_same, get_or-set_other, length-set}
use Rattle.journeys.specs.declared.network.Footpath.{Footpath}
use Rattle.scan.specs.Chains.{slot, slots, first_in}
use Rattle.scan.specs.PathTables.{Tabled}
use Rattle.scan.proofs.Chains.{or_at}
use Rattle.scan.proofs.Stores.{apart}

abbrev pub path_from : Footpath → ℕ
path_from p = p.from

-- what stands for a footpath past the end
abbrev pub no_path : Footpath
no_path = record { from = 0; to = 0; seconds = 0 }

module _ {X : Type 0} (stop : X → ℕ) where
  -- the first is the first of the first m, or else the first behind these
  pub first_split : (k i m : ℕ) (xs : List X) → first_in stop k i xs ≡ or_at (first_in stop k i (take m xs)) (first_in stop k (i + m) (drop m xs))
  first_split k i zero xs = ap (λ (n : ℕ). first_in stop k n xs) (let z : i ≡ i + 0 = omega arith in z)
  first_split k i (suc m) [] = refl
  first_split k i (suc m) (x ∷ xs) =
      go (slot (stop x) == k)
      (first_split k (suc i) m xs ∙ ap (λ (n : ℕ). or_at (first_in stop k (suc i) (take m xs)) (first_in stop k n (drop m xs))) (let z : suc i + m ≡ i + suc m = omega arith in z))
    where
      go : (b : Bool) → first_in stop k (suc i) xs ≡ or_at (first_in stop k (suc i) (take m xs)) (first_in stop k (i + suc m) (drop m xs))
          → cond b (Some i) (first_in stop k (suc i) xs) ≡ or_at (cond b (Some i) (first_in stop k (suc i) (take m xs))) (first_in stop k (i + suc m) (drop m xs))
      go true more = refl
      go false more = more

  -- a search by each place in order
  pub passed_by : (k i : ℕ) (x : X) (xs : List X) → drop i xs ≡ x ∷ drop (suc i) xs → (slot (stop x) ≡ k → ⊥) → first_in stop k i (drop i xs) ≡ first_in stop k (suc i) (drop (suc i) xs)
  passed_by k i x xs e ne = ap (first_in stop k i) e ∙ ap (λ b. cond b (Some i) (first_in stop k (suc i) (drop (suc i) xs))) (apart (slot (stop x)) k ne)

  pub come_to : (k i : ℕ) (x : X) (xs : List X) → drop i xs ≡ x ∷ drop (suc i) xs → slot (stop x) ≡ k → first_in stop k i (drop i xs) ≡ Some i
  come_to k i x xs e is = ap (first_in stop k i) e ∙ ap (λ b. cond b (Some i) (first_in stop k (suc i) (drop (suc i) xs))) (eq-eqb (slot (stop x)) k is)

-- what stands before place n stands there among the first n
pub taken : {X : Type 0} (xs : List X) (i m n : ℕ) (x : X) → suc i + m ≡ n → drop i xs ≡ x ∷ drop (suc i) xs → drop i (take n xs) ≡ x ∷ drop (suc i) (take n xs)
taken xs i m n x h e =
    (λ v. drop i (take ((let z : n ≡ i + suc m = omega (arith, h) in z) v) xs)) ∙ drop-take i (suc m) xs ∙ ap (take (suc m)) e
    ∙ ap (λ l. x ∷ l) (sym (drop-take (suc i) m xs) ∙ ap (λ (k : ℕ). drop (suc i) (take k xs)) h)

module _ (paths : List Footpath) (first next : List (Option ℕ)) (t : Tabled paths first next) where
  -- where the table has none, the first lies behind it
  pub first_found : (k : ℕ) (o : Option ℕ) → k < slots → get_or first k None ≡ o → or_at o (first_in path_from k slots (drop slots paths)) ≡ first_in path_from k 0 paths
  first_found k o h e = sym (first_split path_from k 0 slots paths ∙ ap (λ z. or_at z (first_in path_from k slots (drop slots paths))) (sym (t.first_of k h) ∙ e))

  pub next_found : (i : ℕ) (x : Footpath) (o : Option ℕ) → i < slots → drop i paths ≡ x ∷ drop (suc i) paths → get_or next i None ≡ o
      → or_at o (first_in path_from (slot x.from) slots (drop slots paths)) ≡ first_in path_from (slot x.from) (suc i) (drop (suc i) paths)
  next_found i x o h e f =
      let m = slots - suc i in
      let n : suc i + m ≡ slots = omega (arith, h) in
      let inside : first_in path_from (slot x.from) (suc i) (take m (drop (suc i) paths)) ≡ o =
      ap (first_in path_from (slot x.from) (suc i)) (sym (drop-take (suc i) m paths) ∙ ap (λ (k : ℕ). drop (suc i) (take k paths)) n) ∙ sym (t.next_of i x (taken paths i m slots x n e)) ∙ f in
      sym (first_split path_from (slot x.from) (suc i) m (drop (suc i) paths)
      ∙ (λ v. or_at (inside v) (first_in path_from (slot x.from) (suc i + m) (drop-drop m (suc i) paths v)))
      ∙ ap (λ (k : ℕ). or_at o (first_in path_from (slot x.from) k (drop k paths))) n)

-- so far, the footpaths from place i on are in the table
pub record Built (paths : List Footpath) (i : ℕ) (first next : List (Option ℕ)) : Type 0 where
  pub firsts : length first ≡ slots
  pub nexts : length next ≡ slots
  pub first_of : (k : ℕ) → k < slots → get_or first k None ≡ first_in path_from k i (drop i paths)
  pub next_of : (j : ℕ) (x : Footpath) → i ≤ j → drop j paths ≡ x ∷ drop (suc j) paths → get_or next j None ≡ first_in path_from (slot x.from) (suc j) (drop (suc j) paths)

pub none_built : (paths : List Footpath) (n : ℕ) (first next : List (Option ℕ)) → length paths ≤ n → length first ≡ slots → length next ≡ slots → ((k : ℕ) → k < slots → get_or first k None ≡ None) → Built paths n first next
none_built paths n first next h firsts nexts none = record {
  firsts = firsts;
  nexts = nexts;
  first_of = λ k lt. none k lt ∙ ap (first_in path_from k n) (sym (drop_all n paths h));
  next_of = λ j x le e. absurd (let z : ◌≡◌ {A = List Footpath} [] (x ∷ drop (suc j) paths) = sym (drop_all j paths (omega arith)) ∙ e in let w : ◌≡◌ {A = ℕ} 0 1 = cc in omega arith);
}

-- one more in front
pub one_built : (paths : List Footpath) (i n : ℕ) (x : Footpath) (first next : List (Option ℕ)) → n ≡ suc i → i < slots → slot x.from < slots → drop i paths ≡ x ∷ drop (suc i) paths
    → Built paths n first next → Built paths i (set first (slot x.from) (Some i)) (set next i (get_or first (slot x.from) None))
one_built paths i n x first next is h within e b = record {
  firsts = length-set first (slot x.from) (Some i) ∙ b.firsts;
  nexts = length-set next i (get_or first (slot x.from) None) ∙ b.nexts;
  first_of = λ k lt. first_now k lt (cases_eq k (slot x.from));
  next_of = λ j y le f. next_now j y le f (cases_eq j i);
}
  where
    before : (k : ℕ) → k < slots → get_or first k None ≡ first_in path_from k (suc i) (drop (suc i) paths)
    before k lt = b.first_of k lt ∙ ap (λ (m : ℕ). first_in path_from k m (drop m paths)) is

    first_now : (k : ℕ) → k < slots → (k ≡ slot x.from) ⊎ (k ≡ slot x.from → ⊥) → get_or (set first (slot x.from) (Some i)) k None ≡ first_in path_from k i (drop i paths)
    first_now k lt (inl same) =
        ap (λ (m : ℕ). get_or (set first (slot x.from) (Some i)) m None) same ∙ get_or-set_same first (slot x.from) (Some i) None (omega (arith, within, b.firsts))
        ∙ sym (come_to path_from k i x paths e (sym same))
    first_now k lt (inr ne) = get_or-set_other first (slot x.from) k (Some i) None ne ∙ before k lt ∙ sym (passed_by path_from k i x paths e (λ s. ne (sym s)))

    next_now : (j : ℕ) (y : Footpath) → i ≤ j → drop j paths ≡ y ∷ drop (suc j) paths → (j ≡ i) ⊎ (j ≡ i → ⊥)
        → get_or (set next i (get_or first (slot x.from) None)) j None ≡ first_in path_from (slot y.from) (suc j) (drop (suc j) paths)
    next_now j y le f (inl same) =
        let there : drop i paths ≡ y ∷ drop (suc j) paths = ap (λ (m : ℕ). drop m paths) (sym same) ∙ f in
        let is_x : x ≡ y = cc in
        ap (λ (m : ℕ). get_or (set next i (get_or first (slot x.from) None)) m None) same ∙ get_or-set_same next i (get_or first (slot x.from) None) None (omega (arith, h, b.nexts))
        ∙ before (slot x.from) within ∙ (λ v. first_in path_from (slot (is_x v).from) (suc (sym same v)) (drop (suc (sym same v)) paths))
    next_now j y le f (inr ne) = get_or-set_other next i j (get_or first (slot x.from) None) None ne ∙ b.next_of j y (omega (arith, is, le, ne)) f

-- the first 4,096 are in the table
pub all_built : (paths : List Footpath) (first next : List (Option ℕ)) → Built (take slots paths) 0 first next → Tabled paths first next
all_built paths first next b = record {
  firsts = b.firsts;
  nexts = b.nexts;
  first_of = b.first_of;
  next_of = λ i x e. b.next_of i x (omega arith) e;
}
