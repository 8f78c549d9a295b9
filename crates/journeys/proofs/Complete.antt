-- Every journey within the limit is met by a label. Assumes nothing.
use Rattle.std.proofs.Common.{◌≡◌, ℕ, zero, suc, ◌+◌, ◌-◌, ◌<◌, ◌≤◌, true, eqb, List, [], ◌∷◌, ◌++◌, length, sym, refl, ap, ◌∙◌, subst, inl, arith}
use Rattle.std.proofs.lemmas.Bool.{cond_both, cond-true, eq-eqb, le-leb, and_from, not_from_false}
use Rattle.journeys.specs.declared.label.Passenger.{Passenger}
use Rattle.journeys.specs.declared.network.Footpath.{Footpath}
use Rattle.timetable.specs.declared.hops.Hop.{Hop}
use Rattle.timetable.specs.Rule.{Limits}
use Rattle.journeys.specs.declared.label.Label.{Label}
use Rattle.journeys.specs.Journey.{Leg}
use Rattle.journeys.specs.Journey.{walk, ride}
use Rattle.journeys.specs.Lists.{foldi, any, Somewhere}
use Rattle.journeys.specs.Fare.{FareLaws}
use Rattle.journeys.specs.Journey.{Setup, Place, through, hop_in, path_in, after, end, start, last, LegOk, LegsOk, Journey, WalkOk, RideOk}
use Rattle.journeys.specs.Fare.{boarded}
use Rattle.journeys.specs.Labels.{label_by_walk, label_by_ride, passenger, fresh, rides_on, boards}
use Rattle.journeys.specs.Endless.{Pass, offer∞, walk∞, walk_on∞, walks∞, kept∞, alight∞, hop∞, carried∞, pass∞, scan∞, board∞, seat∞}
use Rattle.journeys.proofs.Lists.{some_imp, some_left, some_right, some_map, some_get, some_at, any_some, foldi_finds, foldi_keeps, grown_some}
use Rattle.journeys.proofs.Meets.{Matches, Meets, matches_over, matches_hop, matches_boarded, offer_keeps, offer_meets}
use Rattle.journeys.proofs.Grows.{Of, ridden, pass_grown, pass_up, foot_up, scan_up, in_round, before_walks}

module _ {S : Type 0} (w : Setup S) (kept : (i : ℕ) → (hop_in w i).runs ≡ true → Limits (hop_in w i)) (laws : FareLaws w.fare) where
  abbrev pub Met : Place S → List (Label S) → Type 0
  Met p st = Somewhere (λ l. Meets w.fare l p) st

  -- walks
  walk_label_meets : (p : Place S) (i : ℕ) (j n : ℕ) (l : Label S) → Meets w.fare l p → Meets w.fare (label_by_walk j l n (path_in w i)) (after w p (walk i))
  walk_label_meets p i j n l m = record {
    stop = refl;
    time = omega (arith, m.time);
    rides = m.rides;
    state = m.state;
    foot = λ e. e;
    none = m.none;
  }

  walk_one_meets : (p : Place S) (i : ℕ) → WalkOk w p i → (j n : ℕ) (l : Label S) → Meets w.fare l p → (st : List (Label S)) → Met (after w p (walk i)) (walk∞ w j l n (path_in w i) st)
  walk_one_meets p i o j n l m st =
      rw (cond-true (eqb (path_in w i).from l.stop) (offer∞ w (label_by_walk j l n (path_in w i)) st) st (eq-eqb _ _ (o.here ∙ sym m.stop)))
      (offer_meets w laws (label_by_walk j l n (path_in w i)) st (after w p (walk i)) (walk_label_meets p i j n l m))

  walk_one_keeps : (Q : Label S → Type 0) (j : ℕ) (l : Label S) (n : ℕ) (f : Footpath) (st : List (Label S)) → Somewhere Q st → Somewhere Q (walk∞ w j l n f st)
  walk_one_keeps Q j l n f st s = cond_both (eqb f.from l.stop) (offer∞ w (label_by_walk j l n f) st) st (Somewhere Q) (λ _. offer_keeps w Q (label_by_walk j l n f) st s) (λ _. s)

  foot_one_meets : (p : Place S) (i : ℕ) → WalkOk w p i → (k j : ℕ) (l : Label S) (st : List (Label S)) → (l.rides ≡ k) × Meets w.fare l p → Met (after w p (walk i)) (walk_on∞ w k j l st)
  foot_one_meets p i o k j l st h =
      rw (cond-true (fresh k l) (foldi (walk∞ w j l) 0 w.paths st) st (and_from _ _ (eq-eqb _ _ h.0) (not_from_false _ (h.1.foot o.rested))))
      (foldi_finds (walk∞ w j l) (λ f. f ≡ path_in w i) (Met (after w p (walk i)))
      (λ n f b e. subst (λ (g : Footpath). Met (after w p (walk i)) (walk∞ w j l n g b)) (sym e) (walk_one_meets p i o j n l h.1 b))
      (λ n f b. walk_one_keeps (λ l. Meets w.fare l (after w p (walk i))) j l n f b)
      0 w.paths st (some_at (λ f. f ≡ path_in w i) w.paths i _ o.is refl))

  foot_one_keeps : (Q : Label S → Type 0) (k j : ℕ) (l : Label S) (st : List (Label S)) → Somewhere Q st → Somewhere Q (walk_on∞ w k j l st)
  foot_one_keeps Q k j l st s = cond_both (fresh k l) (foldi (walk∞ w j l) 0 w.paths st) st (Somewhere Q) (λ _. foldi_keeps (walk∞ w j l) (Somewhere Q) (walk_one_keeps Q j l) 0 w.paths st s) (λ _. s)

  foot_meets : (p : Place S) (i : ℕ) → WalkOk w p i → (k : ℕ) (st : List (Label S)) → Somewhere (λ l. (l.rides ≡ k) × Meets w.fare l p) st → Met (after w p (walk i)) (walks∞ w k st)
  unfolding walks∞
  foot_meets p i o k st s = foldi_finds (walk_on∞ w k) (λ l. (l.rides ≡ k) × Meets w.fare l p) (Met (after w p (walk i)))
      (λ j l b. foot_one_meets p i o k j l b) (foot_one_keeps (λ l. Meets w.fare l (after w p (walk i))) k) 0 st st s

  walk_meets : (n : ℕ) (p : Place S) (i : ℕ) → WalkOk w p i → Met p (scan∞ w n) → Met (after w p (walk i)) (scan∞ w n)
  walk_meets n p i o s =
      let r = in_round w (λ l. Meets w.fare l p) n s in
      let b = before_walks w (λ l. Of r.0 l × Meets w.fare l p) (λ l h. h.1.foot o.rested) r.0 r.2 in
      scan_up w (λ l. Meets w.fare l (after w p (walk i))) r.0 n r.1 (walked_in r.0 b)
    where
      walked_in : (k : ℕ) → Somewhere (λ l. (l.rides ≡ k) × Meets w.fare l p) (ridden w k) → Met (after w p (walk i)) (scan∞ w k)
      walked_in zero b = foot_meets p i o 0 (ridden w 0) b
      walked_in (suc k) b = foot_meets p i o (suc k) (ridden w (suc k)) b

  -- rides
  abbrev Aboard : S → List (Passenger S) → Type 0
  Aboard t ab = Somewhere (λ e. Matches w.fare e.state t) ab

  boarded_meets : (r q : ℕ) (s t : S) → r ≤ q → (r ≡ 0 → q ≡ 0) → Matches w.fare s t → Matches w.fare (boarded w.fare r s) (boarded w.fare q t)
  boarded_meets zero zero s t h z m = m
  boarded_meets zero (suc q) s t h z m = absurd (let e : suc q ≡ 0 = z refl in omega arith)
  boarded_meets (suc r) zero s t h z m = absurd (omega arith)
  boarded_meets (suc r) (suc q) s t h z m = matches_boarded w.fare laws 1 s t m

  next_finds : (e : Passenger S) (t : S) → Matches w.fare e.state t → (ab : List (Passenger S)) → Aboard t (seat∞ w e ab)
  next_finds e t m ab = cond_both (any (λ x. w.fare.covers x.state e.state) ab) ab (ab ++ (e ∷ [])) (Aboard t)
      (λ c. some_imp (λ x. w.fare.covers x.state e.state ≡ true) (λ x. Matches w.fare x.state t) (λ x q. matches_over w.fare laws x.state e.state t q m) ab (any_some (λ x. w.fare.covers x.state e.state) ab c))
      (λ c. some_right (λ x. Matches w.fare x.state t) ab (e ∷ []) (inl m))

  next_keeps : (Q : Passenger S → Type 0) (e : Passenger S) (ab : List (Passenger S)) → Somewhere Q ab → Somewhere Q (seat∞ w e ab)
  next_keeps Q e ab s = cond_both (any (λ x. w.fare.covers x.state e.state) ab) ab (ab ++ (e ∷ [])) (Somewhere Q) (λ _. s) (λ _. some_left Q ab (e ∷ []) s)

  board_keeps : (Q : Passenger S → Type 0) (k i : ℕ) (h : Hop) (j : ℕ) (l : Label S) (ab : List (Passenger S)) → Somewhere Q ab → Somewhere Q (board∞ w k i h j l ab)
  board_keeps Q k i h j l ab s = cond_both (boards k h l) (seat∞ w (passenger w.fare i j l) ab) ab (Somewhere Q) (λ _. next_keeps Q (passenger w.fare i j l) ab s) (λ _. s)

  board_finds : (p : Place S) (r i : ℕ) (h : Hop) → h.from ≡ p.stop → p.time ≤ h.departure → (j : ℕ) (l : Label S) (ab : List (Passenger S)) → (l.rides ≡ r) × Meets w.fare l p → Aboard (boarded w.fare p.rides p.state) (board∞ w (suc r) i h j l ab)
  board_finds p r i h here later j l ab m =
      rw (cond-true (boards (suc r) h l) (seat∞ w (passenger w.fare i j l) ab) ab (and_from _ _ (eq-eqb _ _ (ap suc m.0)) (and_from _ _ (eq-eqb _ _ (m.1.stop ∙ sym here)) (le-leb _ _ (omega (arith, m.1.time))))))
      (next_finds (passenger w.fare i j l) (boarded w.fare p.rides p.state) (boarded_meets l.rides p.rides l.state p.state m.1.rides m.1.none m.1.state) ab)

  -- from the aboard list before the labels board to the one after the hop
  carried_on : (k i : ℕ) (h : Hop) (q : Pass S) (t : S) → Limits h → Aboard t (foldi (board∞ w k i h) 0 q.store (kept∞ w h q)) → Aboard (w.fare.hop h t) (carried∞ w k i h q)
  unfolding carried∞
  carried_on k i h q t m s = some_map (λ e. Matches w.fare e.state t) (λ e. Matches w.fare e.state (w.fare.hop h t)) (rides_on w.fare h) (λ e x. matches_hop w.fare laws h e.state t m x) (foldi (board∞ w k i h) 0 q.store (kept∞ w h q)) s

  hop_trip : (k i : ℕ) (h : Hop) (q : Pass S) → (hop∞ w k i h q).trip ≡ h.trip
  unfolding hop∞
  hop_trip k i h q = cond_both h.runs _ _ (λ (x : Pass S). x.trip ≡ h.trip) (λ _. refl) (λ _. refl)

  hop_aboard : (k i : ℕ) (h : Hop) (q : Pass S) → h.runs ≡ true → (hop∞ w k i h q).aboard ≡ carried∞ w k i h q
  unfolding hop∞
  hop_aboard k i h q e = ap (λ (x : Pass S). x.aboard) (cond-true h.runs _ _ e)

  hop_store : (k i : ℕ) (h : Hop) (q : Pass S) → h.runs ≡ true → (hop∞ w k i h q).store ≡ foldi (alight∞ w k i h) 0 (carried∞ w k i h q) q.store
  unfolding hop∞
  hop_store k i h q e = ap (λ (x : Pass S). x.store) (cond-true h.runs _ _ e)

  -- a label that meets the place boards
  gets_on : (p : Place S) (r i : ℕ) (h : Hop) (q : Pass S) → h.runs ≡ true → Limits h → h.from ≡ p.stop → p.time ≤ h.departure → Somewhere (λ l. Of r l × Meets w.fare l p) q.store → Aboard (w.fare.hop h (boarded w.fare p.rides p.state)) (hop∞ w (suc r) i h q).aboard
  gets_on p r i h q runs m here later s =
      rw (hop_aboard (suc r) i h q runs) (carried_on (suc r) i h q (boarded w.fare p.rides p.state) m
      (foldi_finds (board∞ w (suc r) i h) (λ l. Of r l × Meets w.fare l p) (Aboard (boarded w.fare p.rides p.state))
      (λ j l ab. board_finds p r i h here later j l ab) (board_keeps (λ e. Matches w.fare e.state (boarded w.fare p.rides p.state)) (suc r) i h)
      0 q.store (kept∞ w h q) s))

  -- who is aboard stays aboard
  stays_on : (k i : ℕ) (h : Hop) (q : Pass S) (t : S) → h.runs ≡ true → Limits h → q.trip ≡ h.trip → Aboard t q.aboard → Aboard (w.fare.hop h t) (hop∞ w k i h q).aboard
  stays_on k i h q t runs m same s =
      rw (hop_aboard k i h q runs) (carried_on k i h q t m
      (foldi_keeps (board∞ w k i h) (Aboard t) (board_keeps (λ e. Matches w.fare e.state t) k i h) 0 q.store (kept∞ w h q)
      (rw (cond-true (eqb q.trip h.trip) q.aboard [] (eq-eqb _ _ same)) s)))

  -- who is aboard is offered
  gets_off : (p : Place S) (k i : ℕ) (h : Hop) (q : Pass S) → h.runs ≡ true → p.stop ≡ h.to → p.time ≡ h.arrival → 0 < k → k ≤ p.rides → Aboard p.state (hop∞ w k i h q).aboard → Met p (hop∞ w k i h q).store
  gets_off p k i h q runs there then pos few s =
      rw (hop_store k i h q runs) (foldi_finds (alight∞ w k i h) (λ e. Matches w.fare e.state p.state) (Met p)
      (λ n e b m. offer_meets w laws (label_by_ride k i h e) b p (record { stop = sym there; time = omega arith; rides = few; state = m; foot = λ _. refl; none = λ z. absurd (omega arith) }))
      (λ n e b. offer_keeps w (λ l. Meets w.fare l p) (label_by_ride k i h e) b)
      0 (carried∞ w k i h q) q.store (rw (hop_aboard k i h q runs) at s))

  riding : (p : Place S) (a b : ℕ) → RideOk w p a b → (r : ℕ) → Somewhere (λ l. Of r l × Meets w.fare l p) (scan∞ w r) → (n i : ℕ) → i ≡ a + n → i ≤ b → Aboard (through w a (suc n) (boarded w.fare p.rides p.state)) (pass∞ w (suc r) (scan∞ w r) (suc i)).aboard
  riding p a b o r s zero i e h =
      let f : i ≡ a = omega arith in
      let st = pass∞ w (suc r) (scan∞ w r) i in
      subst (λ (m : ℕ). Aboard (w.fare.hop (hop_in w m) (boarded w.fare p.rides p.state)) (hop∞ w (suc r) i (hop_in w i) st).aboard) e
      (gets_on p r i (hop_in w i) st (o.running i (omega arith) h) (kept i (o.running i (omega arith) h)) (ap (λ (j : ℕ). (hop_in w j).from) f ∙ o.here) (subst (λ (j : ℕ). p.time ≤ (hop_in w j).departure) (sym f) o.later)
      (grown_some (Of (suc r)) (λ l. Of r l × Meets w.fare l p) (scan∞ w r) st.store (pass_grown w (suc r) (scan∞ w r) i) s))
  riding p a b o r s (suc n) i e h =
      let f : i ≡ suc (a + n) = omega arith in
      let st = pass∞ w (suc r) (scan∞ w r) i in
      let t = through w a (suc n) (boarded w.fare p.rides p.state) in
      let before : Aboard t st.aboard = subst (λ (m : ℕ). Aboard t (pass∞ w (suc r) (scan∞ w r) m).aboard) (sym f) (riding p a b o r s n (a + n) refl (omega arith)) in
      let same : st.trip ≡ (hop_in w i).trip =
      ap (λ (m : ℕ). (pass∞ w (suc r) (scan∞ w r) m).trip) f ∙ hop_trip (suc r) (a + n) (hop_in w (a + n)) (pass∞ w (suc r) (scan∞ w r) (a + n)) ∙ o.one_trip (a + n) (omega arith) (omega arith) ∙ sym (o.one_trip i (omega arith) h) in
      subst (λ (m : ℕ). Aboard (w.fare.hop (hop_in w m) t) (hop∞ w (suc r) i (hop_in w i) st).aboard) e
      (stays_on (suc r) i (hop_in w i) st t (o.running i (omega arith) h) (kept i (o.running i (omega arith) h)) same before)

  ride_meets : (n : ℕ) (p : Place S) (a b : ℕ) → RideOk w p a b → suc p.rides ≤ n → Met p (scan∞ w n) → Met (after w p (ride a b)) (scan∞ w n)
  ride_meets n p a b o fits s =
      let x = in_round w (λ l. Meets w.fare l p) n s in
      let r = x.0 in
      let l = some_get (λ l. Of r l × Meets w.fare l p) (scan∞ w r) x.2 in
      let few : r ≤ p.rides = subst (λ (m : ℕ). m ≤ p.rides) l.1.0 l.1.1.rides in
      let fo : a ≤ b = o.forth in
      let e : b ≡ a + (b - a) = omega arith in
      let q = after w p (ride a b) in
      let off = gets_off q (suc r) b (hop_in w b) (pass∞ w (suc r) (scan∞ w r) b) (o.running b fo (omega arith)) refl refl (omega arith) (omega arith)
      (riding p a b o r x.2 (b - a) b e (omega arith)) in
      scan_up w (λ l. Meets w.fare l q) (suc r) n (omega arith)
      (foot_up w (λ l. Meets w.fare l q) (suc r) (ridden w (suc r)) (pass_up w (λ l. Meets w.fare l q) (suc r) (scan∞ w r) (suc b) (length w.hops) o.is off))

  leg_rides : (p : Place S) (g : Leg) → p.rides ≤ (after w p g).rides
  leg_rides p (walk i) = omega arith
  leg_rides p (ride a b) = omega arith

  legs_rides : (p : Place S) (ls : List Leg) → p.rides ≤ (end w p ls).rides
  legs_rides p [] = omega arith
  legs_rides p (g ∷ ls) = omega (arith, leg_rides p g, legs_rides (after w p g) ls)

  leg_meets : (n : ℕ) (p : Place S) (g : Leg) → LegOk w p g → (after w p g).rides ≤ n → Met p (scan∞ w n) → Met (after w p g) (scan∞ w n)
  leg_meets n p (walk i) o h s = walk_meets n p i o s
  leg_meets n p (ride a b) o h s = ride_meets n p a b o h s

  legs_meet : (n : ℕ) (p : Place S) (ls : List Leg) → LegsOk w p ls → (end w p ls).rides ≤ n → Met p (scan∞ w n) → Met (end w p ls) (scan∞ w n)
  legs_meet n p [] o h s = s
  legs_meet n p (g ∷ ls) o h s =
      let k : (after w p g).rides ≤ n = omega (arith, legs_rides (after w p g) ls) in
      legs_meet n (after w p g) ls o.1 h (leg_meets n p g o.0 k s)

  start_meets : (n : ℕ) → Met (start w) (scan∞ w n)
  start_meets n = scan_up w (λ l. Meets w.fare l (start w)) 0 n (omega arith)
      (foot_up w (λ l. Meets w.fare l (start w)) 0 (ridden w 0) (inl (record { stop = refl; time = omega arith; rides = omega arith; state = inl refl; foot = λ _. refl; none = λ _. refl })))

  pub complete : (n : ℕ) (ls : List Leg) → Journey w ls → (last w ls).rides ≤ n → Met (last w ls) (scan∞ w n)
  complete n ls o h = legs_meet n (start w) ls o h (start_meets n)
