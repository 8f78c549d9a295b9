-- A search for the first place that fails a test, turn by turn; and the hops that a timetable answers.
use Rattle.std.proofs.Common.{◌≡◌, ℕ, suc, ◌+◌, ◌<◌, ◌≤◌, Bool, true, false, cond, ltb, List, length, get_or, take, drop, Some, None, Option, sym, ap, ◌∙◌, add-one, arith, length-take, get_or-take}
use Rattle.std.specs.List.{slice_get}
use Rattle.std.proofs.lemmas.List.{at_drop_more, at_drop_all}
use Rattle.std.proofs.lemmas.Option.{slice_get-get_or}
use Rattle.std.proofs.lemmas.Bool.{cond-true, lt-ltb}
use Rattle.timetable.specs.declared.hops.Hop.{Hop}
use Rattle.timetable.specs.Table.{most_hops, count_of, hop_at}
use Rattle.journeys.specs.Scan.{no_hop}
use Rattle.planner.specs.Limits.{first_bad}

-- the search stands at a place, and what is left of the list gives the answer
module _ {A : Type 0} (test : A → Bool) (xs : List A) (i : ℕ) (so_far : first_bad test i (drop i xs) ≡ first_bad test 0 xs) where
  turn : (d : A) (b : Bool) → i < length xs → b ≡ test (get_or xs i d) → cond b (first_bad test (suc i) (drop (i + 1) xs)) (Some i) ≡ first_bad test 0 xs
  turn d b h e = ap (λ t. cond t (first_bad test (suc i) (drop (i + 1) xs)) (Some i)) e ∙ sym (at_drop_more (first_bad test i) xs i d h) ∙ so_far

  pub goes_on : (d : A) → i < length xs → true ≡ test (get_or xs i d) → first_bad test (i + 1) (drop (i + 1) xs) ≡ first_bad test 0 xs
  goes_on d h e = ap (λ (n : ℕ). first_bad test n (drop (i + 1) xs)) (add-one i) ∙ turn d true h e

  pub fails : (d : A) → i < length xs → false ≡ test (get_or xs i d) → Some i ≡ first_bad test 0 xs
  fails d h e = turn d false h e

  pub ends : length xs ≤ i → None ≡ first_bad test 0 xs
  ends h = sym (at_drop_all (first_bad test i) xs i h) ∙ so_far

-- each place below the count has a hop
module _ (hs : List Hop) (i count : ℕ) (e : count ≡ count_of hs) (h : i < count) where
  pub hop_counted : i < length (take most_hops hs)
  hop_counted = omega (arith, length-take most_hops hs)

  hop_there : hop_at hs i ≡ Some (get_or (take most_hops hs) i no_hop)
  hop_there =
      let near : i < most_hops = omega arith in
      let within : i < length hs = omega arith in
      cond-true (ltb i most_hops) (slice_get hs i) None (lt-ltb i most_hops near) ∙ slice_get-get_or hs i no_hop within ∙ ap Some (sym (get_or-take most_hops hs i no_hop near))

  pub hop_read : (hop : Hop) (o : Option Hop) → o ≡ hop_at hs i → o ≡ Some hop → hop ≡ get_or (take most_hops hs) i no_hop
  hop_read hop o p q = let t = hop_there in cc

  pub hop_missed : (o : Option Hop) → o ≡ hop_at hs i → o ≡ None → ⊥
  hop_missed o p q = let t = hop_there in let z : ◌≡◌ {A = ℕ} 0 1 = cc in omega arith
