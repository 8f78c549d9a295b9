-- The store only grows, in the round k by labels of k rides. Assumes nothing.
use Rattle.std.proofs.Common.{◌≡◌, ℕ, zero, suc, ◌≤◌, true, false, not, eqb, List, [], ◌∷◌, length, refl, subst, inl, inr, arith}
use Rattle.std.proofs.lemmas.Bool.{cond_both, cases_eq, eqb-true, both_ways, and_parts}
use Rattle.journeys.specs.declared.network.Footpath.{Footpath}
use Rattle.timetable.specs.declared.hops.Hop.{Hop}
use Rattle.journeys.specs.declared.label.Label.{Label}
use Rattle.journeys.specs.Lists.{Somewhere, Each}
use Rattle.journeys.specs.Journey.{Setup, hop_in}
use Rattle.journeys.specs.Labels.{came_on_foot, label_by_walk, label_by_ride, fresh}
use Rattle.journeys.specs.Endless.{Pass, walk∞, walk_on∞, walks∞, alight∞, hop∞, carried∞, pass∞, scan∞, first∞}
use Rattle.journeys.proofs.Lists.{Grown, grown_none, grown_trans, grown_some, grown_cases, foldi_grown, some_imp, some_get, grown_imp, each_imp, grown_each}
use Rattle.journeys.proofs.Meets.{offer_grown}

abbrev pub Of : {S : Type 0} → ℕ → Label S → Type 0
Of k l = l.rides ≡ k

abbrev pub OnFoot : {S : Type 0} → ℕ → Label S → Type 0
OnFoot k l = (came_on_foot l.way ≡ true) × (l.rides ≡ k)

module _ {S : Type 0} (w : Setup S) where
  walk_one_grown : (k j : ℕ) (l : Label S) → l.rides ≡ k → (i : ℕ) (f : Footpath) (st : List (Label S)) → Grown (OnFoot k) st (walk∞ w j l i f st)
  walk_one_grown k j l r i f st = cond_both (eqb f.from l.stop) _ st (Grown (OnFoot k) st) (λ _. offer_grown w (OnFoot k) (label_by_walk j l i f) st (refl, r)) (λ _. grown_none (OnFoot k) st)

  foot_one_grown : (k j : ℕ) (l : Label S) (st : List (Label S)) → Grown (OnFoot k) st (walk_on∞ w k j l st)
  foot_one_grown k j l st = cond_both (fresh k l) _ st (Grown (OnFoot k) st) (λ e. foldi_grown (OnFoot k) (walk∞ w j l) (walk_one_grown k j l (eqb-true _ _ (and_parts (eqb l.rides k) (not (came_on_foot l.way)) e).0)) 0 w.paths st) (λ _. grown_none (OnFoot k) st)

  pub foot_grown : (k : ℕ) (st : List (Label S)) → Grown (OnFoot k) st (walks∞ w k st)
  unfolding walks∞
  foot_grown k st = foldi_grown (OnFoot k) (walk_on∞ w k) (foot_one_grown k) 0 st st

  pub hop_grown : (k i : ℕ) (h : Hop) (p : Pass S) → Grown (Of k) p.store (hop∞ w k i h p).store
  unfolding hop∞
  hop_grown k i h p = cond_both h.runs _ _ (λ (q : Pass S). Grown (Of k) p.store q.store) (λ _. foldi_grown (Of k) (alight∞ w k i h) (λ n e st. offer_grown w (Of k) (label_by_ride k i h e) st refl) 0 (carried∞ w k i h p) p.store) (λ _. grown_none (Of k) p.store)

  pub pass_grown : (k : ℕ) (st : List (Label S)) (i : ℕ) → Grown (Of k) st (pass∞ w k st i).store
  pass_grown k st zero = grown_none (Of k) st
  pass_grown k st (suc i) = grown_trans (Of k) st (pass∞ w k st i).store (pass∞ w k st (suc i)).store (pass_grown k st i) (hop_grown k i (hop_in w i) (pass∞ w k st i))

  -- what is in the store after i hops is there later
  pub pass_up : (Q : Label S → Type 0) (k : ℕ) (st : List (Label S)) (i n : ℕ) → i ≤ n → Somewhere Q (pass∞ w k st i).store → Somewhere Q (pass∞ w k st n).store
  pass_up Q k st i zero h s = let e : i ≡ 0 = omega arith in subst (λ (m : ℕ). Somewhere Q (pass∞ w k st m).store) e s
  pass_up Q k st i (suc n) h s = elim (cases_eq i (suc n)) [
    | inl e ↦ subst (λ (m : ℕ). Somewhere Q (pass∞ w k st m).store) e s
    | inr ne ↦ grown_some (Of k) Q (pass∞ w k st n).store (pass∞ w k st (suc n)).store (hop_grown k n (hop_in w n) (pass∞ w k st n)) (pass_up Q k st i n (omega arith) s)
  ]

  pub foot_up : (Q : Label S → Type 0) (k : ℕ) (st : List (Label S)) → Somewhere Q st → Somewhere Q (walks∞ w k st)
  foot_up Q k st s = grown_some (OnFoot k) Q st (walks∞ w k st) (foot_grown k st) s

  pub scan_next : (Q : Label S → Type 0) (k : ℕ) → Somewhere Q (scan∞ w k) → Somewhere Q (scan∞ w (suc k))
  scan_next Q k s = foot_up Q (suc k) _ (grown_some (Of (suc k)) Q (scan∞ w k) (pass∞ w (suc k) (scan∞ w k) (length w.hops)).store (pass_grown (suc k) (scan∞ w k) (length w.hops)) s)

  pub scan_up : (Q : Label S → Type 0) (i n : ℕ) → i ≤ n → Somewhere Q (scan∞ w i) → Somewhere Q (scan∞ w n)
  scan_up Q i zero h s = let e : i ≡ 0 = omega arith in subst (λ (m : ℕ). Somewhere Q (scan∞ w m)) e s
  scan_up Q i (suc n) h s = elim (cases_eq i (suc n)) [
    | inl e ↦ subst (λ (m : ℕ). Somewhere Q (scan∞ w m)) e s
    | inr ne ↦ scan_next Q n (scan_up Q i n (omega arith) s)
  ]

  -- the store before the walks of the round k
  abbrev pub ridden : ℕ → List (Label S)
  ridden zero = first∞ w ∷ []
  ridden (suc k) = (pass∞ w (suc k) (scan∞ w k) (length w.hops)).store

  -- a label of the store was written in the round of its rides
  round_grown : (k : ℕ) → Grown (Of (suc k)) (scan∞ w k) (scan∞ w (suc k))
  round_grown k = grown_trans (Of (suc k)) (scan∞ w k) (ridden (suc k)) (scan∞ w (suc k)) (pass_grown (suc k) (scan∞ w k) (length w.hops))
      (grown_imp (OnFoot (suc k)) (Of (suc k)) (λ l h. h.1) (ridden (suc k)) (scan∞ w (suc k)) (foot_grown (suc k) (ridden (suc k))))

  pub in_round : (Q : Label S → Type 0) (n : ℕ) → Somewhere Q (scan∞ w n) → (r : ℕ) × (r ≤ n) × Somewhere (λ l. Of r l × Q l) (scan∞ w r)
  in_round Q zero s = elim (grown_cases (OnFoot 0) Q (first∞ w ∷ []) (scan∞ w 0) (foot_grown 0 (first∞ w ∷ [])) s) [
    | inl t ↦ (0, omega arith, foot_up (λ l. Of 0 l × Q l) 0 (first∞ w ∷ []) (elim t [ inl q ↦ inl (refl, q) | inr x ↦ inr x ]))
    | inr t ↦ (0, omega arith, some_imp (λ l. OnFoot 0 l × Q l) (λ l. Of 0 l × Q l) (λ l h. (h.0.1, h.1)) (scan∞ w 0) t)
  ]
  in_round Q (suc n) s = elim (grown_cases (Of (suc n)) Q (scan∞ w n) (scan∞ w (suc n)) (round_grown n) s) [
    | inl t ↦ (let i = in_round Q n t in (i.0, omega arith, i.2))
    | inr t ↦ (suc n, omega arith, t)
  ]

  pub scan_rides : (n : ℕ) → Each (λ l. l.rides ≤ n) (scan∞ w n)
  scan_rides zero = grown_each (OnFoot 0) (λ l. l.rides ≤ 0) (λ l h. omega (arith, h.1)) (first∞ w ∷ []) (scan∞ w 0) (foot_grown 0 (first∞ w ∷ [])) (omega arith, tt)
  scan_rides (suc n) = grown_each (Of (suc n)) (λ l. l.rides ≤ suc n) (λ l h. omega arith) (scan∞ w n) (scan∞ w (suc n)) (round_grown n) (each_imp (λ l. l.rides ≤ n) (λ l. l.rides ≤ suc n) (λ l h. omega arith) (scan∞ w n) (scan_rides n))

  -- a label of the store that is not on foot was there before the walks of its round
  pub before_walks : (Q : Label S → Type 0) → ((l : Label S) → Q l → came_on_foot l.way ≡ false) → (k : ℕ) → Somewhere Q (scan∞ w k) → Somewhere Q (ridden k)
  before_walks Q h k s = elim (grown_cases (OnFoot k) Q (ridden k) (scan∞ w k) (walks k) s) [
    | inl t ↦ t
    | inr t ↦ (let x = some_get (λ l. OnFoot k l × Q l) (scan∞ w k) t in absurd (both_ways (came_on_foot x.0.way) (h x.0 x.1.1) x.1.0.0))
  ]
    where
      walks : (n : ℕ) → Grown (OnFoot n) (ridden n) (scan∞ w n)
      walks zero = foot_grown 0 (ridden 0)
      walks (suc n) = foot_grown (suc n) (ridden (suc n))
