-- Every label is where the legs that lead to it end. Assumes nothing.
use Rattle.std.proofs.Common.{◌≡◌, ℕ, zero, suc, ◌+◌, ◌-◌, ◌<◌, ◌≤◌, true, false, not, ◌&&◌, eqb, leb, List, [], ◌∷◌, ◌++◌, map, length, sym, refl, ap, ◌∙◌, subst, ap₂, inl, inr, arith, length-append}
use Rattle.std.proofs.lemmas.Bool.{cond_both, cases_eq, eqb-true, leb-true, and_parts, not-true}
use Rattle.journeys.specs.declared.label.Passenger.{Passenger}
use Rattle.journeys.specs.declared.network.Footpath.{Footpath}
use Rattle.timetable.specs.declared.hops.Hop.{Hop}
use Rattle.journeys.specs.declared.label.Label.{Label}
use Rattle.journeys.specs.Journey.{Leg}
use Rattle.journeys.specs.Journey.{walk, ride}
use Rattle.journeys.specs.declared.label.Way.{Way}
use Rattle.journeys.specs.declared.label.Way.TheVariants.{Origin, Walked, Rode}
use Rattle.journeys.specs.Lists.{foldi, any, Each, Eachi}
use Rattle.journeys.specs.Journey.{Setup, Place, through, hop_in, path_in, no_path, after, start, last, LegOk}
use Rattle.journeys.specs.Fare.{boarded}
use Rattle.journeys.specs.Labels.{came_on_foot, covers, label_by_walk, label_by_ride, passenger, fresh, rides_on, boards}
use Rattle.journeys.specs.Endless.{Pass, offer∞, walk∞, walk_on∞, walks∞, kept∞, alight∞, hop∞, carried∞, pass∞, scan∞, first∞, board∞, seat∞}
use Rattle.journeys.specs.Leading.{place, LegsLead, LabelsAreReached}
use Rattle.journeys.specs.Traces.{legs_by, traces, legs_of}
use Rattle.journeys.proofs.Lists.{foldi_each, eachi_of, eachi_imp, eachi_both, eachi_push, eachi_at, each_imp, each_append, each_map, Grown, grown_none, grown_one, grown_trans}
use Rattle.journeys.proofs.Traces.{legs_stay, legs_push, end_push, ok_push}
use Rattle.journeys.proofs.Grows.{scan_rides}
use Rattle.journeys.proofs.Meets.{offer_grown}
use Rattle.journeys.proofs.Times.{Timely, rested_time, later_is}

-- the label that a way comes from stands before the place j
abbrev pub Earlier : ℕ → Way → Type 0
Earlier j Origin = Unit {0}
Earlier j (Walked path from) = from < j
Earlier j (Rode first last from) = from < j

module _ {S : Type 0} (w : Setup S) (timely : Timely w) where
  abbrev Any : Label S → Type 0
  Any l = Unit {0}

  pub record Known (st : List (Label S)) (j : ℕ) (l : Label S) : Type 0 where
    pub is : j < length st
    pub earlier : Earlier j l.way
    pub real : LegsLead w (legs_of st j) l

  abbrev pub Sound : List (Label S) → Type 0
  Sound st = Eachi (Known st) 0 st

  known_grown : (st b : List (Label S)) (j : ℕ) (l : Label S) → Grown Any st b → Known st j l → Known b j l
  known_grown st b j l g k = rw g.is (record { is = simp length-append (omega (arith, k.is)); earlier = k.earlier; real = rw (legs_stay st g.more j k.is) k.real })

  push_sound : (st : List (Label S)) (c : Label S) → Sound st → Earlier (length st) c.way → LegsLead w (legs_by c.way (traces st)) c → Sound (st ++ (c ∷ []))
  push_sound st c s before r = eachi_push (Known (st ++ (c ∷ []))) 0 st c
      (eachi_imp (Known st) (Known (st ++ (c ∷ []))) (λ j l k. known_grown st (st ++ (c ∷ [])) j l (grown_one Any st c tt) k) 0 st s)
      (subst (λ (n : ℕ). Known (st ++ (c ∷ [])) n c) (let z : length st ≡ 0 + length st = omega arith in z) (record { is = simp length-append (omega arith); earlier = before; real = rw (legs_push st c) r }))

  offer_sound : (st : List (Label S)) (c : Label S) → Sound st → Earlier (length st) c.way → LegsLead w (legs_by c.way (traces st)) c → Sound (offer∞ w c st)
  offer_sound st c s before r = cond_both (any (λ l. covers w.fare l c) st) st (st ++ (c ∷ [])) Sound (λ _. s) (λ _. push_sound st c s before r)

  real_push : (ls : List Leg) (l : Label S) (g : Leg) (c : Label S) → LegsLead w ls l → LegOk w (place l) g → after w (place l) g ≡ place c → LegsLead w (ls ++ (g ∷ [])) c
  real_push ls l g c r o e = record {
    journey = ok_push w (start w) ls g r.journey (subst (λ (p : Place S). LegOk w p g) (sym r.ends) o);
    ends = end_push w (start w) ls g ∙ ap (λ (p : Place S). after w p g) r.ends ∙ e;
  }

  -- a store that has grown soundly from st
  pub record From (st b : List (Label S)) : Type 0 where
    pub grown : Grown Any st b
    pub sound : Sound b

  from_offer : (st b : List (Label S)) (c : Label S) → From st b → Earlier (length b) c.way → LegsLead w (legs_by c.way (traces b)) c → From st (offer∞ w c b)
  from_offer st b c f before r = record { grown = grown_trans Any st b (offer∞ w c b) f.grown (offer_grown w Any c b tt); sound = offer_sound b c f.sound before r }

  -- walks
  walk_one_sound : (st : List (Label S)) (j : ℕ) (l : Label S) → Known st j l → came_on_foot l.way ≡ false → (i : ℕ) (f : Footpath) → (i < length w.paths) × (f ≡ path_in w i) → (b : List (Label S)) → From st b → From st (walk∞ w j l i f b)
  walk_one_sound st j l k n i f e b s = cond_both (eqb f.from l.stop) (offer∞ w (label_by_walk j l i f) b) b (From st)
      (λ t. from_offer st b (label_by_walk j l i f) s (known_grown st b j l s.grown k).is (real_push (legs_of b j) l (walk i) (label_by_walk j l i f) (known_grown st b j l s.grown k).real
      (record { rested = n; is = e.0; here = ap (λ (g : Footpath). g.from) (sym e.1) ∙ eqb-true _ _ t })
      (walked_to ∙ ap (λ (g : Footpath). place (label_by_walk j l i g)) (sym e.1))))
      (λ _. s)
    where
      early : l.time ≤ 172800
      early = subst (λ (p : Place S). p.time ≤ 172800) k.real.ends (rested_time w timely (legs_of st j) k.real.journey (ap (λ (p : Place S). p.foot) k.real.ends ∙ n))

      walked_to : after w (place l) (walk i) ≡ place (label_by_walk j l i (path_in w i))
      walked_to = ap (λ (t : ℕ). record { stop = (path_in w i).to; time = t; rides = l.rides; foot = true; state = l.state }) (later_is l.time (path_in w i).seconds early (timely.short i e.0))

  paths_each : Eachi (λ i f. (i < length w.paths) × (f ≡ path_in w i)) 0 w.paths
  paths_each = eachi_at w.paths no_path

  foot_one_sound : (st : List (Label S)) (k j : ℕ) (l : Label S) → Known st j l → (b : List (Label S)) → From st b → From st (walk_on∞ w k j l b)
  foot_one_sound st k j l n b s = cond_both (fresh k l) (foldi (walk∞ w j l) 0 w.paths b) b (From st)
      (λ t. foldi_each (walk∞ w j l) (λ i f. (i < length w.paths) × (f ≡ path_in w i)) (From st)
      (λ i f c e s. walk_one_sound st j l n (not-true (came_on_foot l.way) (and_parts (eqb l.rides k) (not (came_on_foot l.way)) t).1) i f e c s) 0 w.paths b paths_each s)
      (λ _. s)

  foot_sound : (k : ℕ) (st : List (Label S)) → Sound st → Sound (walks∞ w k st)
  unfolding walks∞
  foot_sound k st s = (foldi_each (walk_on∞ w k) (Known st) (From st) (λ j l b n f. foot_one_sound st k j l n b f) 0 st st s (record { grown = grown_none Any st; sound = s })).sound

  -- an entry aboard before the hop i, which has ridden c hops of the trip
  pub record Riding (b : List (Label S)) (k trip i c : ℕ) (e : Passenger S) : Type 0 where
    pub label : Label S
    pub known : Known b e.label label
    pub rides : suc label.rides ≡ k
    pub here : (hop_in w e.first).from ≡ label.stop
    pub later : label.time ≤ (hop_in w e.first).departure
    pub upto : e.first + c ≡ i
    pub state : e.state ≡ through w e.first c (boarded w.fare label.rides label.state)
    pub running : (j : ℕ) → e.first ≤ j → j < i → (hop_in w j).runs ≡ true
    pub one_trip : (j : ℕ) → e.first ≤ j → j < i → (hop_in w j).trip ≡ trip

  abbrev Before : List (Label S) → ℕ → ℕ → ℕ → Passenger S → Type 0
  Before b k trip i e = (c : ℕ) × Riding b k trip i c e

  abbrev After : List (Label S) → ℕ → ℕ → ℕ → Passenger S → Type 0
  After b k trip i e = (c : ℕ) × Riding b k trip (suc i) (suc c) e

  riding_grown : (st b : List (Label S)) (k trip i c : ℕ) (e : Passenger S) → Grown Any st b → Riding st k trip i c e → Riding b k trip i c e
  riding_grown st b k trip i c e g r = record {
    label = r.label;
    known = known_grown st b e.label r.label g r.known;
    rides = r.rides;
    here = r.here;
    later = r.later;
    upto = r.upto;
    state = r.state;
    running = r.running;
    one_trip = r.one_trip;
  }

  -- over the hop i
  riding_on : (b : List (Label S)) (k i c : ℕ) (e : Passenger S) → i < length w.hops → (hop_in w i).runs ≡ true → Riding b k (hop_in w i).trip i c e → Riding b k (hop_in w i).trip (suc i) (suc c) (rides_on w.fare (hop_in w i) e)
  riding_on b k i c e is runs r = record {
    label = r.label;
    known = r.known;
    rides = r.rides;
    here = r.here;
    later = r.later;
    upto = omega (arith, r.upto);
    state = ap (w.fare.hop (hop_in w i)) r.state ∙ ap (λ (n : ℕ). w.fare.hop (hop_in w n) (through w e.first c (boarded w.fare r.label.rides r.label.state))) (sym r.upto);
    running = λ j lo hi. elim (cases_eq j i) [ inl q ↦ ap (λ (n : ℕ). (hop_in w n).runs) q ∙ runs | inr ne ↦ r.running j lo (omega arith) ];
    one_trip = λ j lo hi. elim (cases_eq j i) [ inl q ↦ ap (λ (n : ℕ). (hop_in w n).trip) q | inr ne ↦ r.one_trip j lo (omega arith) ];
  }

  board_one_sound : (st : List (Label S)) (k i j : ℕ) (l : Label S) → Known st j l → (ab : List (Passenger S)) → Each (Before st k (hop_in w i).trip i) ab → Each (Before st k (hop_in w i).trip i) (board∞ w k i (hop_in w i) j l ab)
  board_one_sound st k i j l n ab s =
      let P = Before st k (hop_in w i).trip i in
      let e = passenger w.fare i j l in
      cond_both (boards k (hop_in w i) l) (seat∞ w e ab) ab (Each P)
      (λ t. cond_both (any (λ x. w.fare.covers x.state e.state) ab) ab (ab ++ (e ∷ [])) (Each P)
      (λ _. s)
      (λ _. each_append P ab (e ∷ []) s ((0, new t), tt)))
      (λ _. s)
    where
      new : boards k (hop_in w i) l ≡ true → Riding st k (hop_in w i).trip i 0 (passenger w.fare i j l)
      new t =
          let a = and_parts (eqb (suc l.rides) k) (eqb l.stop (hop_in w i).from && leb l.time (hop_in w i).departure) t in
          let b = and_parts (eqb l.stop (hop_in w i).from) (leb l.time (hop_in w i).departure) a.1 in
          record {
            label = l;
            known = n;
            rides = eqb-true _ _ a.0;
            here = sym (eqb-true _ _ b.0);
            later = leb-true _ _ b.1;
            upto = omega arith;
            state = refl;
            running = λ j lo hi. absurd (omega arith);
            one_trip = λ j lo hi. absurd (omega arith);
          }

  ride_place : (i c k : ℕ) (e : Passenger S) (l : Label S) → suc l.rides ≡ k → e.first + suc c ≡ suc i → e.state ≡ through w e.first (suc c) (boarded w.fare l.rides l.state) → after w (place l) (ride e.first i) ≡ place (label_by_ride k i (hop_in w i) e)
  ride_place i c k e l r u s =
      let d : i - e.first ≡ c = omega arith in
      ap₂ (λ (n : ℕ) (t : S). record { stop = (hop_in w i).to; time = (hop_in w i).arrival; rides = n; foot = false; state = t }) r
      (ap (λ (n : ℕ). through w e.first (suc n) (boarded w.fare l.rides l.state)) d ∙ sym s)

  alight_one_sound : (st : List (Label S)) (k i : ℕ) (e : Passenger S) → i < length w.hops → After st k (hop_in w i).trip i e → (n : ℕ) (b : List (Label S)) → From st b → From st (alight∞ w k i (hop_in w i) n e b)
  alight_one_sound st k i e is a n b s =
      let r = a.1 in
      let u : e.first ≤ i = omega (arith, r.upto) in
      from_offer st b (label_by_ride k i (hop_in w i) e) s (known_grown st b e.label r.label s.grown r.known).is
      (real_push (legs_of b e.label) r.label (ride e.first i) (label_by_ride k i (hop_in w i) e) (known_grown st b e.label r.label s.grown r.known).real
      (record { forth = u; is = is; here = r.here; later = r.later; running = λ j lo hi. r.running j lo (omega arith); one_trip = λ j lo hi. r.one_trip j lo (omega arith) ∙ sym (r.one_trip e.first (omega arith) (omega arith)) })
      (ride_place i a.0 k e r.label r.rides r.upto r.state))

  pub record PassOk (k i : ℕ) (p : Pass S) : Type 0 where
    pub sound : Sound p.store
    pub aboard : Each (Before p.store k p.trip i) p.aboard

  hop_sound : (k i : ℕ) (p : Pass S) → i < length w.hops → PassOk k i p → PassOk k (suc i) (hop∞ w k i (hop_in w i) p)
  unfolding hop∞ carried∞
  hop_sound k i p is o = cond_both (hop_in w i).runs _ _ (PassOk k (suc i))
      (λ runs.
      let onto = each_map P (After st k trip i) (rides_on w.fare h) (λ e x. (x.0, riding_on st k i x.0 e is runs x.1)) gone boarding in
      let off = foldi_each (alight∞ w k i h) (λ _. After st k trip i) (From st) (λ n e b a f. alight_one_sound st k i e is a n b f) 0 (map (rides_on w.fare h) gone) st (eachi_of (After st k trip i) 0 (map (rides_on w.fare h) gone) onto) (record { grown = grown_none Any st; sound = o.sound }) in
      record {
        sound = off.sound;
        aboard = each_imp (After st k trip i) (Before (foldi (alight∞ w k i h) 0 (map (rides_on w.fare h) gone) st) k trip (suc i)) (λ e x. (suc x.0, riding_grown st (foldi (alight∞ w k i h) 0 (map (rides_on w.fare h) gone) st) k trip (suc i) (suc x.0) e off.grown x.1)) (map (rides_on w.fare h) gone) onto;
      })
      (λ _. record { sound = o.sound; aboard = tt })
    where
      h : Hop
      h = hop_in w i

      trip : ℕ
      trip = (hop_in w i).trip

      st : List (Label S)
      st = p.store

      P : Passenger S → Type 0
      P = Before st k trip i

      gone : List (Passenger S)
      gone = foldi (board∞ w k i h) 0 st (kept∞ w h p)

      staying : Each P (kept∞ w h p)
      staying = cond_both (eqb p.trip trip) p.aboard [] (Each P) (λ t. subst (λ (n : ℕ). Each (Before st k n i) p.aboard) (eqb-true _ _ t) o.aboard) (λ _. tt)

      boarding : Each P gone
      boarding = foldi_each (board∞ w k i h) (Known st) (Each P) (λ j l ab n s. board_one_sound st k i j l n ab s) 0 st (kept∞ w h p) o.sound staying

  pass_sound : (k : ℕ) (st : List (Label S)) → Sound st → (i : ℕ) → i ≤ length w.hops → PassOk k i (pass∞ w k st i)
  pass_sound k st s zero h = record { sound = s; aboard = tt }
  pass_sound k st s (suc i) h = hop_sound k i (pass∞ w k st i) h (pass_sound k st s i (omega arith))

  pub scan_sound : (k : ℕ) → Sound (scan∞ w k)
  scan_sound zero = foot_sound 0 (first∞ w ∷ []) (record { is = omega arith; earlier = tt; real = record { journey = tt; ends = refl } }, tt)
  scan_sound (suc k) = foot_sound (suc k) (pass∞ w (suc k) (scan∞ w k) (length w.hops)).store (pass_sound (suc k) (scan∞ w k) (scan_sound k) (length w.hops) (omega arith)).sound

  -- the legs traced to each label of the endless scan lead there, within the ride limit
  pub labels_reached : (limit : ℕ) → LabelsAreReached w limit (scan∞ w limit)
  labels_reached limit = eachi_both (λ j l. LegsLead w (legs_of (scan∞ w limit) j) l) (λ l. l.rides ≤ limit) 0 (scan∞ w limit)
      (eachi_imp (Known (scan∞ w limit)) (λ j l. LegsLead w (legs_of (scan∞ w limit) j) l) (λ j l n. n.real) 0 (scan∞ w limit) (scan_sound limit))
      (scan_rides w limit)
