-- The tests before a scan find no fault exactly where no cause stands.
use Rattle.std.proofs.Common.{◌≡◌, ℕ, suc, ◌<◌, Bool, true, false, cond, not, ◌&&◌, ◌||◌, eqb, ltb, leb, List, [], ◌∷◌, length, take, Some, None, Option, refl, ap, ◌∙◌, subst, arith}
use Rattle.std.proofs.lemmas.List.{take_all}
use Rattle.std.proofs.lemmas.Bool.{and_parts, and_from, or_parts, or_from, not-true, not_from_false, ltb-true, ltb-false, leb-true, leb-false, lt-ltb, le-ltb, le-leb, lt-leb, eqb-false, ne_eqb, cond-false}
use Rattle.timetable.specs.declared.hops.Hop.{Hop}
use Rattle.timetable.specs.Rule.{day_end}
use Rattle.timetable.specs.Table.{most_hops, count_of}
use Rattle.journeys.specs.declared.network.Footpath.{Footpath}
use Rattle.journeys.specs.declared.network.Stop.{Stop}
use Rattle.journeys.specs.declared.question.Question.{Question as Asked}
use Rattle.journeys.specs.Lists.{Each}
use Rattle.journeys.proofs.Lists.{each_imp}
use Rattle.sheet.specs.Format.{sheet_bytes}
use Rattle.planner.specs.declared.refusal.Field.TheVariants.{Origin, Destination, Departure, Rides, Count}
use Rattle.planner.specs.declared.refusal.NetworkList.TheVariants.{Stops, Footpaths, Hops}
use Rattle.planner.specs.declared.refusal.OutputList.TheVariants.{Sheet, Legs}
use Rattle.planner.specs.declared.refusal.Refusal.{Refusal}
use Rattle.planner.specs.declared.refusal.Refusal.TheVariants.{Question, Network, ShortOutput}
use Rattle.planner.specs.Acceptance.{StopOk, PathOk, HopOk, QuestionFits, ListFits, NetworkFits, Askable}
use Rattle.planner.specs.Outcome.{Space}
use Rattle.planner.specs.Limits.{most_stops, most_paths, most_rides, most_legs, top_zone, top_class, longest_walk, fault_of_question, stop_within, path_within, hop_within, first_bad, fault_of_stops, fault_of_paths, hops_fault, fault_of_network, fault_of_room, or_else, refused_by, fault_of}

-- where there is no cause, there is none before and none behind
else_none : {A : Type 0} (a b : Option A) → or_else a b ≡ None → (a ≡ None) × (b ≡ None)
else_none None b e = (refl, e)
else_none (Some x) b e = absurd (let z : ◌≡◌ {A = ℕ} 0 1 = cc in omega arith)

pub by_none : {A : Type 0} (f : A → Refusal) (o : Option A) → refused_by f o ≡ None → o ≡ None
by_none f None e = refl
by_none f (Some x) e = absurd (let z : ◌≡◌ {A = ℕ} 0 1 = cc in omega arith)

cond_none : {A : Type 0} (b : Bool) (x : A) (rest : Option A) → cond b (Some x) rest ≡ None → (b ≡ false) × (rest ≡ None)
cond_none true x rest e = absurd (let z : ◌≡◌ {A = ℕ} 0 1 = cc in omega arith)
cond_none false x rest e = (refl, e)

none_bad : {A : Type 0} (test : A → Bool) (i : ℕ) (xs : List A) → first_bad test i xs ≡ None → Each (λ x. test x ≡ true) xs
none_bad test i [] e = tt
none_bad test i (x ∷ xs) e = go (test x) refl e (none_bad test (suc i) xs)
  where
    go : (b : Bool) → test x ≡ b → cond b (first_bad test (suc i) xs) (Some i) ≡ None → (first_bad test (suc i) xs ≡ None → Each (λ x. test x ≡ true) xs) → (test x ≡ true) × Each (λ x. test x ≡ true) xs
    go true t e more = (t, more e)
    go false t e more = absurd (let z : ◌≡◌ {A = ℕ} 0 1 = cc in omega arith)

all_good : {A : Type 0} (test : A → Bool) (i : ℕ) (xs : List A) → Each (λ x. test x ≡ true) xs → first_bad test i xs ≡ None
all_good test i [] e = refl
all_good test i (x ∷ xs) e = ap (λ b. cond b (first_bad test (suc i) xs) (Some i)) e.0 ∙ all_good test (suc i) xs e.1

pub stop_ok : (s : Stop) → stop_within s ≡ true → StopOk s
stop_ok s e = let a = and_parts (leb s.zone top_zone) (leb s.class top_class) e in record { zone = leb-true _ _ a.0; class = leb-true _ _ a.1 }

pub stop_tested : (s : Stop) → StopOk s → stop_within s ≡ true
stop_tested s o = and_from _ _ (le-leb _ _ o.zone) (le-leb _ _ o.class)

pub path_ok : (n : ℕ) (p : Footpath) → path_within n p ≡ true → PathOk n p
path_ok n p e =
    let a = and_parts (ltb p.from n) _ e in
    let b = and_parts (ltb p.to n) _ a.1 in
    let c = and_parts (not (eqb p.from p.to)) _ b.1 in
    let d = and_parts (leb 1 p.seconds) (leb p.seconds longest_walk) c.1 in
    record { from = ltb-true _ _ a.0; to = ltb-true _ _ b.0; apart = eqb-false _ _ (not-true (eqb p.from p.to) c.0); long = leb-true _ _ d.0; short = leb-true _ _ d.1 }

pub path_tested : (n : ℕ) (p : Footpath) → PathOk n p → path_within n p ≡ true
path_tested n p o = and_from _ _ (lt-ltb _ _ o.from) (and_from _ _ (lt-ltb _ _ o.to) (and_from _ _ (not_from_false (eqb p.from p.to) (ne_eqb _ _ o.apart)) (and_from _ _ (le-leb _ _ o.long) (le-leb _ _ o.short))))

pub hop_ok : (n : ℕ) (h : Hop) → hop_within n h ≡ true → HopOk n h
hop_ok n h e = record { from = λ r. ltb-true _ _ (parts r).0; to = λ r. ltb-true _ _ (parts r).1 }
  where
    parts : h.runs ≡ true → (ltb h.from n ≡ true) × (ltb h.to n ≡ true)
    parts r = and_parts (ltb h.from n) (ltb h.to n) (subst (λ b. (not b || (ltb h.from n && ltb h.to n)) ≡ true) r e)

pub hop_tested : (n : ℕ) (h : Hop) → HopOk n h → hop_within n h ≡ true
hop_tested n h o = go h.runs (λ r. and_from _ _ (lt-ltb _ _ (o.from r)) (lt-ltb _ _ (o.to r)))
  where
    go : (b : Bool) → (b ≡ true → (ltb h.from n && ltb h.to n) ≡ true) → (not b || (ltb h.from n && ltb h.to n)) ≡ true
    go true k = k refl
    go false k = refl

-- a question that can be asked
pub question_fits : (q : Asked) (stops : ℕ) (hops : List Hop) → fault_of_question q stops (count_of hops) ≡ None → QuestionFits q stops (length hops)
question_fits q stops hops e =
    let f0 = cond_none (leb stops q.origin) Origin _ e in
    let f1 = cond_none (leb stops q.destination) Destination _ f0.1 in
    let f2 = cond_none (ltb day_end q.departure) Departure _ f1.1 in
    let f3 = cond_none (ltb q.rides 1 || ltb most_rides q.rides) Rides _ f2.1 in
    let rides = or_parts (ltb q.rides 1) (ltb most_rides q.rides) f3.0 in
    let f4 = cond_none (leb most_hops (count_of hops)) Count None f3.1 in
    record {
      origin = leb-false _ _ f0.0;
      destination = leb-false _ _ f1.0;
      departure = ltb-false _ _ f2.0;
      some_rides = ltb-false _ _ rides.0;
      few_rides = ltb-false _ _ rides.1;
      few_hops = (let z = leb-false most_hops (count_of hops) f4.0 in omega arith);
    }

pub question_clear : (q : Asked) (stops : ℕ) (hops : List Hop) → QuestionFits q stops (length hops) → fault_of_question q stops (count_of hops) ≡ None
question_clear q stops hops o =
    cond-false (leb stops q.origin) _ _ (lt-leb _ _ o.origin)
    ∙ cond-false (leb stops q.destination) _ _ (lt-leb _ _ o.destination)
    ∙ cond-false (ltb day_end q.departure) _ _ (le-ltb _ _ o.departure)
    ∙ cond-false (ltb q.rides 1 || ltb most_rides q.rides) _ _ (or_from _ _ (le-ltb _ _ o.some_rides) (le-ltb _ _ o.few_rides))
    ∙ cond-false (leb most_hops (count_of hops)) _ _ (lt-leb _ _ (let z = o.few_hops in omega arith))

-- a list within limits
module _ {A : Type 0} (P : A → Type 0) (test : A → Bool) (is_such : (x : A) → test x ≡ true → P x) (is_tested : (x : A) → P x → test x ≡ true) (most : ℕ) (xs : List A) where
  list_fits : cond (ltb most (length xs)) (Some (length xs)) (first_bad test 0 xs) ≡ None → ListFits P most xs
  list_fits e =
      let s = cond_none (ltb most (length xs)) (length xs) (first_bad test 0 xs) e in
      record { few = ltb-false _ _ s.0; all = each_imp (λ x. test x ≡ true) P is_such xs (none_bad test 0 xs s.1) }

  list_clear : ListFits P most xs → cond (ltb most (length xs)) (Some (length xs)) (first_bad test 0 xs) ≡ None
  list_clear o = cond-false (ltb most (length xs)) _ _ (le-ltb _ _ o.few) ∙ all_good test 0 xs (each_imp P (λ x. test x ≡ true) is_tested xs o.all)

pub stops_fit : (stops : List Stop) → fault_of_stops stops ≡ None → ListFits StopOk most_stops stops
stops_fit stops e = list_fits StopOk stop_within stop_ok stop_tested most_stops stops e

pub stops_clear : (stops : List Stop) → ListFits StopOk most_stops stops → fault_of_stops stops ≡ None
stops_clear stops o = list_clear StopOk stop_within stop_ok stop_tested most_stops stops o

pub paths_fit : (n : ℕ) (paths : List Footpath) → fault_of_paths n paths ≡ None → ListFits (PathOk n) most_paths paths
paths_fit n paths e = list_fits (PathOk n) (path_within n) (path_ok n) (path_tested n) most_paths paths e

pub paths_clear : (n : ℕ) (paths : List Footpath) → ListFits (PathOk n) most_paths paths → fault_of_paths n paths ≡ None
paths_clear n paths o = list_clear (PathOk n) (path_within n) (path_ok n) (path_tested n) most_paths paths o

-- where there are few hops, all are tested
pub all_tested : (n : ℕ) (hops : List Hop) → length hops < most_hops → hops_fault n hops ≡ first_bad (hop_within n) 0 hops
all_tested n hops few = let all : take most_hops hops ≡ hops = take_all most_hops hops (omega arith) in ap (first_bad (hop_within n) 0) all

pub hops_fit : (n : ℕ) (hops : List Hop) → length hops < most_hops → hops_fault n hops ≡ None → Each (HopOk n) hops
hops_fit n hops few e = each_imp (λ x. hop_within n x ≡ true) (HopOk n) (hop_ok n) hops (none_bad (hop_within n) 0 hops (subst (λ o. o ≡ None) (all_tested n hops few) e))

pub hops_clear : (n : ℕ) (hops : List Hop) → length hops < most_hops → Each (HopOk n) hops → hops_fault n hops ≡ None
hops_clear n hops few o = all_tested n hops few ∙ all_good (hop_within n) 0 hops (each_imp (HopOk n) (λ x. hop_within n x ≡ true) (hop_tested n) hops o)

pub network_fits : (stops : List Stop) (paths : List Footpath) (hops : List Hop) → length hops < most_hops → fault_of_network stops paths hops ≡ None → NetworkFits stops paths hops
network_fits stops paths hops few e =
    let n0 = else_none (refused_by (Network Stops) (fault_of_stops stops)) _ e in
    let n1 = else_none (refused_by (Network Footpaths) (fault_of_paths (length stops) paths)) _ n0.1 in
    record {
      stops_fit = stops_fit stops (by_none (Network Stops) _ n0.0);
      paths_fit = paths_fit (length stops) paths (by_none (Network Footpaths) _ n1.0);
      hops_fit = hops_fit (length stops) hops few (by_none (Network Hops) (hops_fault (length stops) hops) n1.1);
    }

pub network_clear : (stops : List Stop) (paths : List Footpath) (hops : List Hop) → length hops < most_hops → NetworkFits stops paths hops → fault_of_network stops paths hops ≡ None
network_clear stops paths hops few o =
    let s = stops_clear stops o.stops_fit in
    let p = paths_clear (length stops) paths o.paths_fit in
    let h = hops_clear (length stops) hops few o.hops_fit in
    λ v. or_else (refused_by (Network Stops) (s v)) (or_else (refused_by (Network Footpaths) (p v)) (refused_by (Network Hops) (h v)))

pub askable : (q : Asked) (stops : List Stop) (paths : List Footpath) (hops : List Hop) (space : Space) → fault_of q stops paths hops space.sheet space.legs ≡ None → Askable q stops paths hops space
unfolding fault_of
askable q stops paths hops space e =
    let a = else_none (refused_by Question (fault_of_question q (length stops) (count_of hops))) _ e in
    let b = else_none (fault_of_network stops paths hops) _ a.1 in
    let asks = question_fits q (length stops) hops (by_none Question _ a.0) in
    let r0 = cond_none (ltb space.sheet sheet_bytes) Sheet _ (by_none ShortOutput (fault_of_room space.sheet space.legs) b.1) in
    let r1 = cond_none (ltb space.legs most_legs) Legs None r0.1 in
    record { question = asks; network = network_fits stops paths hops asks.few_hops b.0; sheet_room = ltb-false _ _ r0.0; legs_room = ltb-false _ _ r1.0 }

pub no_fault_found : (q : Asked) (stops : List Stop) (paths : List Footpath) (hops : List Hop) (space : Space) → Askable q stops paths hops space → fault_of q stops paths hops space.sheet space.legs ≡ None
unfolding fault_of
no_fault_found q stops paths hops space o =
    let question = question_clear q (length stops) hops o.question in
    let network = network_clear stops paths hops o.question.few_hops o.network in
    let r : fault_of_room space.sheet space.legs ≡ None = cond-false (ltb space.sheet sheet_bytes) _ _ (le-ltb _ _ o.sheet_room) ∙ cond-false (ltb space.legs most_legs) _ _ (le-ltb _ _ o.legs_room) in
    λ v. or_else (refused_by Question (question v)) (or_else (network v) (refused_by ShortOutput (r v)))
