-- The first fault of a question, by the test that finds it.
use Rattle.std.proofs.Common.{◌≡◌, ℕ, List, length, Some, None, Option, Ok, Err, Result, refl, ap, ◌∙◌, subst, arith}
use Rattle.std.specs.Prelude.{IsErrAnd, MatchResult}
use Rattle.std.specs.Result.{result_err}
use Rattle.timetable.specs.declared.hops.Hop.{Hop}
use Rattle.timetable.specs.Table.{count_of}
use Rattle.journeys.specs.declared.network.Footpath.{Footpath}
use Rattle.journeys.specs.declared.network.Stop.{Stop}
use Rattle.journeys.specs.declared.question.Question.{Question as Asked}
use Rattle.planner.specs.declared.refusal.Field.{Field}
use Rattle.planner.specs.declared.refusal.NetworkList.{NetworkList}
use Rattle.planner.specs.declared.refusal.NetworkList.TheVariants.{Stops, Footpaths, Hops}
use Rattle.planner.specs.declared.refusal.OutputList.{OutputList}
use Rattle.planner.specs.declared.refusal.Refusal.{Refusal}
use Rattle.planner.specs.declared.refusal.Refusal.TheVariants.{Question, Network, ShortOutput}
use Rattle.planner.specs.Limits.{fault_of_question, fault_of_stops, fault_of_paths, hops_fault, fault_of_network, fault_of_room, or_else, refused_by, fault_of}

module _ (q : Asked) (stops : List Stop) (paths : List Footpath) (hops : List Hop) (bytes legs count : ℕ) (counted : count ≡ count_of hops) where
  by_tests : (a : Option Field) (b : Option Refusal) (c : Option OutputList) → a ≡ fault_of_question q (length stops) count → b ≡ fault_of_network stops paths hops → c ≡ fault_of_room bytes legs
      → or_else (refused_by Question a) (or_else b (refused_by ShortOutput c)) ≡ fault_of q stops paths hops bytes legs
  unfolding fault_of
  by_tests a b c p r s = λ v. or_else (refused_by Question ((p ∙ ap (fault_of_question q (length stops)) counted) v)) (or_else (r v) (refused_by ShortOutput (s v)))

  pub fault_in_question : (field : Field) → Some field ≡ fault_of_question q (length stops) count → Some (Question field) ≡ fault_of q stops paths hops bytes legs
  fault_in_question field p = by_tests (Some field) (fault_of_network stops paths hops) (fault_of_room bytes legs) p refl refl

  pub fault_in_network : (refusal : Refusal) → None ≡ fault_of_question q (length stops) count → Some refusal ≡ fault_of_network stops paths hops → Some refusal ≡ fault_of q stops paths hops bytes legs
  fault_in_network refusal p r = by_tests None (Some refusal) (fault_of_room bytes legs) p r refl

  pub fault_in_room : (output : OutputList) → None ≡ fault_of_question q (length stops) count → None ≡ fault_of_network stops paths hops → Some output ≡ fault_of_room bytes legs → Some (ShortOutput output) ≡ fault_of q stops paths hops bytes legs
  fault_in_room output p r s = by_tests None None (Some output) p r s

  pub no_fault : None ≡ fault_of_question q (length stops) count → None ≡ fault_of_network stops paths hops → None ≡ fault_of_room bytes legs → None ≡ fault_of q stops paths hops bytes legs
  no_fault p r s = by_tests None None None p r s

-- a call that fails with this error
pub fails_with : {X E : Type 0} (r : Result X E) (x : E) → IsErrAnd r (λ e. e ≡ x) → result_err r ≡ Some x
fails_with (Ok v) x h = absurd h
fails_with (Err e) x h = ap Some h

pub err_is : {X E : Type 0} (r : Result X E) (x : E) → IsErrAnd r (λ e. e ≡ x) → r ≡ Err x
err_is (Ok v) x h = absurd h
err_is (Err e) x h = ap Err h

-- a call whose error is told in other words has given what is given
module _ {X E D : Type 0} (P : E → D → Type 0) where
  pub was_ok : (r : Result X E) (m : Result X D) (x : X) → MatchResult r (λ a. m ≡ Ok a) (λ e. IsErrAnd m (P e)) → m ≡ Ok x → r ≡ Ok x
  was_ok (Ok a) m x c is = ap Ok (let z : a ≡ x = cc in z)
  was_ok (Err e) m x c is = absurd (subst (λ q. IsErrAnd q (P e)) is c)

  pub was_err : (r : Result X E) (m : Result X D) (d : D) → MatchResult r (λ a. m ≡ Ok a) (λ e. IsErrAnd m (P e)) → m ≡ Err d → (e : E) × ((r ≡ Err e) × P e d)
  was_err (Ok a) m d c is = absurd (let z : ◌≡◌ {A = ℕ} 0 1 = cc in omega arith)
  was_err (Err e) m d c is = (e, ((λ i. Err e), subst (λ q. IsErrAnd q (P e)) is c))

-- a fault is one of a field, of a list of the network, or of an output
module _ (P : Refusal → Type 0) where
  by_one : {A : Type 0} (g : A → Refusal) → ((a : A) → P (g a)) → (o : Option A) (r : Refusal) → refused_by g o ≡ Some r → P r
  by_one g h None r e = absurd (let z : ◌≡◌ {A = ℕ} 0 1 = cc in omega arith)
  by_one g h (Some a) r e = subst P (let z : g a ≡ r = cc in z) (h a)

  by_either : (a b : Option Refusal) → ((r : Refusal) → a ≡ Some r → P r) → ((r : Refusal) → b ≡ Some r → P r) → (r : Refusal) → or_else a b ≡ Some r → P r
  by_either None b x y r e = y r e
  by_either (Some s) b x y r e = x r e

  pub fault_early : (q : Asked) (stops : List Stop) (paths : List Footpath) (hops : List Hop) (bytes legs : ℕ) → ((field : Field) → P (Question field)) → ((list : NetworkList) (place : ℕ) → P (Network list place)) → ((output : OutputList) → P (ShortOutput output))
      → (r : Refusal) → fault_of q stops paths hops bytes legs ≡ Some r → P r
  unfolding fault_of
  fault_early q stops paths hops bytes legs a b c =
      by_either (refused_by Question (fault_of_question q (length stops) (count_of hops))) (or_else (fault_of_network stops paths hops) (refused_by ShortOutput (fault_of_room bytes legs)))
      (by_one Question a (fault_of_question q (length stops) (count_of hops)))
      (by_either (fault_of_network stops paths hops) (refused_by ShortOutput (fault_of_room bytes legs))
      (by_either (refused_by (Network Stops) (fault_of_stops stops)) (or_else (refused_by (Network Footpaths) (fault_of_paths (length stops) paths)) (refused_by (Network Hops) (hops_fault (length stops) hops)))
      (by_one (Network Stops) (b Stops) (fault_of_stops stops))
      (by_either (refused_by (Network Footpaths) (fault_of_paths (length stops) paths)) (refused_by (Network Hops) (hops_fault (length stops) hops))
      (by_one (Network Footpaths) (b Footpaths) (fault_of_paths (length stops) paths))
      (by_one (Network Hops) (b Hops) (hops_fault (length stops) hops))))
      (by_one ShortOutput c (fault_of_room bytes legs)))
