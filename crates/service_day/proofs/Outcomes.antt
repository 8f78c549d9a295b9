-- The outcome of each call, in terms of sets and delays, from what the code has tested of its table.
use Rattle.std.proofs.Common.{◌≡◌, ℕ, zero, suc, ◌<◌, ◌≤◌, Bool, true, false, cond, not, ◌&&◌, ◌||◌, eqb, ltb, leb, List, [], ◌∷◌, ◌++◌, length, Some, None, Option, Ok, Err, Result, sym, refl, ap, ◌∙◌, arith}
use Rattle.std.proofs.lemmas.Bool.{and_parts, and_from, and_left, le-leb, lt-leb, lt-ltb, le-ltb, leb-true, leb-false, ltb-true, ltb-false, eqb-true, eq-eqb, ne_eqb, true≢false, cond-true, cond-false}
use Rattle.std.specs.Prelude.{◌==◌, find, nat_lt, if◌then◌else◌}
use Rattle.std.specs.Option.{option_map_or, ok_or}
use Rattle.service_day.specs.Refusals.{told, left}
use Rattle.service_day.specs.declared.delay.Delay.{Delay}
use Rattle.service_day.specs.declared.refusal.Refusal.{Refusal}
use Rattle.service_day.specs.declared.refusal.Refusal.TheVariants.{NoSuchTrip, TableFull, LongDelay}
use Rattle.service_day.specs.Days.{longest_delay, set_full, put_in, take_out, set_to, is_late, cancelling, reinstating, delaying}
use Rattle.service_day.specs.DelayTables.{trip_of, all_late, seconds_of}
use Rattle.service_day.specs.Tables.{most_listed, itself, listed, tidy, without, no_room}
use Rattle.service_day.proofs.Members.{listed_push, listed_without, full_as_set}

-- n is the number of trips that the timetable below answers
module _ (trips trip n : ℕ) (is : n ≡ trips) (there : trip < n) where
  known : {X : Type 0} (rest : Result X Refusal) → cond (leb trips trip) (Err (NoSuchTrip trip)) rest ≡ rest
  known rest = cond-false (leb trips trip) (Err (NoSuchTrip trip)) rest (lt-leb trips trip (omega arith))

  module _ (ts : List ℕ) where
    abbrev cancelled : ℕ → Bool
    cancelled t = listed itself t ts

    pub cancel_full : tidy itself ts ≡ true → no_room itself trip ts ≡ true → cancelling trips trip cancelled ≡ Err (TableFull trip)
    cancel_full t f = known _ ∙ cond-true (set_full trip cancelled) _ _ (sym (full_as_set itself trip ts t) ∙ f)

    pub cancel_done : tidy itself ts ≡ true → no_room itself trip ts ≡ false → cancelling trips trip cancelled ≡ Ok (put_in trip cancelled)
    cancel_done t f = known _ ∙ cond-false (set_full trip cancelled) _ _ (sym (full_as_set itself trip ts t) ∙ f)

    pub reinstate_done : cancelled trip ≡ true → reinstating trips trip cancelled ≡ Ok (take_out trip cancelled)
    reinstate_done f = known _ ∙ cond-true (cancelled trip) _ _ f

-- the set of a table with an entry more, and without a trip's
pub put_listed : (trip : ℕ) (ts us : List ℕ) → us ≡ ts ++ trip ∷ [] → ◌≡◌ {A = ℕ → Bool} (λ t. listed itself t us) (put_in trip (λ t. listed itself t ts))
put_listed trip ts us e = ap (λ l t. listed itself t l) e ∙ (λ i t. listed_push itself trip ts t i)

pub taken_listed : (trip : ℕ) (ts us : List ℕ) → us ≡ without itself trip ts → ◌≡◌ {A = ℕ → Bool} (λ t. listed itself t us) (take_out trip (λ t. listed itself t ts))
taken_listed trip ts us e = ap (λ l t. listed itself t l) e ∙ (λ i t. listed_without itself trip ts t i)

-- a trip that is not in the set is listed where an entry is left
module _ (trips trip n : ℕ) (is : n ≡ trips) (there : trip < n) (ts us : List ℕ) (r : Option (Unit {0}))
    (t : tidy itself ts ≡ true) (new : listed itself trip ts ≡ false) where
  abbrev set : List ℕ → ℕ → Bool
  set xs x = listed itself x xs

  abbrev Listed : Type 0
  Listed = (ok_or r (TableFull trip) ≡ told (cancelling trips trip (set ts))) × (set us ≡ left (set ts) (cancelling trips trip (set ts)))

  full : no_room itself trip ts ≡ true → r ≡ None → us ≡ ts → Listed
  full f p q =
      let e = cancel_full trips trip n is there ts t f in
      (ap (λ o. ok_or o (TableFull trip)) p ∙ sym (ap told e), ap set q ∙ sym (ap (left (set ts)) e))

  done : no_room itself trip ts ≡ false → r ≡ Some tt → us ≡ ts ++ trip ∷ [] → Listed
  done f p q =
      let e = cancel_done trips trip n is there ts t f in
      (ap (λ o. ok_or o (TableFull trip)) p ∙ sym (ap told e), put_listed trip ts us q ∙ sym (ap (left (set ts)) e))

  pub cancel_listed : r ≡ (if nat_lt (length ts) most_listed then Some tt else None) → us ≡ (if nat_lt (length ts) most_listed then ts ++ trip ∷ [] else ts) → Listed
  cancel_listed = go (nat_lt (length ts) most_listed) refl
    where
      go : (b : Bool) → nat_lt (length ts) most_listed ≡ b → r ≡ (if b then Some tt else None) → us ≡ (if b then ts ++ trip ∷ [] else ts) → Listed
      go true e p q = done (ap (λ b. not b && leb most_listed (length ts)) new ∙ lt-leb most_listed (length ts) (ltb-true (length ts) most_listed e)) p q
      go false e p q = full (ap (λ b. not b && leb most_listed (length ts)) new ∙ le-leb most_listed (length ts) (ltb-false (length ts) most_listed e)) p q

-- Delays.

abbrev pub late_entry : ℕ → ℕ → Delay
late_entry trip seconds = record { trip = trip; seconds = seconds }

-- other entries, and behind them the trip's
seconds_put : (trip s : ℕ) (ds : List Delay) (t : ℕ) → seconds_of (without trip_of trip ds ++ late_entry trip s ∷ []) t ≡ cond (eqb trip t) s (seconds_of ds t)
seconds_put trip s [] t = refl
seconds_put trip s (x ∷ ds) t = go (eqb x.trip trip) refl (eqb trip t) refl (seconds_put trip s ds t)
  where
    go : (a : Bool) → eqb x.trip trip ≡ a → (b : Bool) → eqb trip t ≡ b → seconds_of (without trip_of trip ds ++ late_entry trip s ∷ []) t ≡ cond b s (seconds_of ds t) →
        seconds_of (cond (not a) (x ∷ without trip_of trip ds) (without trip_of trip ds) ++ late_entry trip s ∷ []) t ≡ cond b s (cond (eqb x.trip t) x.seconds (seconds_of ds t))
    go true p true q ih = ih
    go true p false q ih = ih ∙ ap (λ b. cond b x.seconds (seconds_of ds t)) (sym (ap (λ k. eqb k t) (eqb-true x.trip trip p) ∙ q))
    go false p true q ih = ap (λ b. cond b x.seconds (seconds_of (without trip_of trip ds ++ late_entry trip s ∷ []) t)) (ap (eqb x.trip) (sym (eqb-true trip t q)) ∙ p) ∙ ih
    go false p false q ih = ap (λ m. cond (eqb x.trip t) x.seconds m) ih

seconds_without : (trip : ℕ) (ds : List Delay) (t : ℕ) → seconds_of (without trip_of trip ds) t ≡ cond (eqb trip t) 0 (seconds_of ds t)
seconds_without trip [] t = go (eqb trip t)
  where
    go : (b : Bool) → ◌≡◌ {A = ℕ} 0 (cond b 0 0)
    go true = refl
    go false = refl
seconds_without trip (x ∷ ds) t = go (eqb x.trip trip) (eqb trip t) refl refl (seconds_without trip ds t)
  where
    go : (a b : Bool) → eqb x.trip trip ≡ a → eqb trip t ≡ b → seconds_of (without trip_of trip ds) t ≡ cond b 0 (seconds_of ds t) →
        seconds_of (cond (not a) (x ∷ without trip_of trip ds) (without trip_of trip ds)) t ≡ cond b 0 (cond (eqb x.trip t) x.seconds (seconds_of ds t))
    go true true p q ih = ih
    go true false p q ih =
        ih ∙ ap (λ b. cond b x.seconds (seconds_of ds t)) (sym (ap (λ k. eqb k t) (eqb-true x.trip trip p) ∙ q))
    go false true p q ih =
        ap (λ m. cond (eqb x.trip t) x.seconds m) ih
        ∙ ap (λ b. cond b x.seconds 0) (ap (eqb x.trip) (sym (eqb-true trip t q)) ∙ p)
    go false false p q ih = ap (λ m. cond (eqb x.trip t) x.seconds m) ih

-- the listed trips are the late ones
late_listed : (ds : List Delay) → all_late ds ≡ true → (t : ℕ) → listed trip_of t ds ≡ ltb 0 (seconds_of ds t)
late_listed [] l t = refl
late_listed (x ∷ ds) l t =
    let p = and_parts (ltb 0 x.seconds && leb x.seconds longest_delay) _ l in
    go (eqb x.trip t) (and_parts (ltb 0 x.seconds) _ p.0).0 (late_listed ds p.1 t)
  where
    go : (b : Bool) → ltb 0 x.seconds ≡ true → listed trip_of t ds ≡ ltb 0 (seconds_of ds t) → (b || listed trip_of t ds) ≡ ltb 0 (cond b x.seconds (seconds_of ds t))
    go true late ih = sym late
    go false late ih = ih

pub late_push : (trip s : ℕ) → 0 < s → s ≤ longest_delay → (ds : List Delay) → all_late ds ≡ true → all_late (ds ++ late_entry trip s ∷ []) ≡ true
late_push trip s h k [] l = and_from _ _ (and_from _ _ (lt-ltb 0 s h) (le-leb s longest_delay k)) refl
late_push trip s h k (x ∷ ds) l =
    let p = and_parts (ltb 0 x.seconds && leb x.seconds longest_delay) _ l in
    and_from _ _ p.0 (late_push trip s h k ds p.1)

pub late_without : (trip : ℕ) (ds : List Delay) → all_late ds ≡ true → all_late (without trip_of trip ds) ≡ true
late_without trip [] l = refl
late_without trip (x ∷ ds) l =
    let p = and_parts (ltb 0 x.seconds && leb x.seconds longest_delay) _ l in
    go (not (eqb x.trip trip)) p.0 (late_without trip ds p.1)
  where
    go : (b : Bool) → (ltb 0 x.seconds && leb x.seconds longest_delay) ≡ true → all_late (without trip_of trip ds) ≡ true → all_late (cond b (x ∷ without trip_of trip ds) (without trip_of trip ds)) ≡ true
    go true first ih = and_from _ _ first ih
    go false first ih = ih

module _ (trips trip n : ℕ) (is : n ≡ trips) (there : trip < n) (seconds : ℕ) (ds : List Delay) where
  abbrev delay : ℕ → ℕ
  delay = seconds_of ds

  room_as_set : tidy trip_of ds ≡ true → all_late ds ≡ true → no_room trip_of trip ds ≡ set_full trip (is_late delay)
  room_as_set t l = full_as_set trip_of trip ds t ∙ ap (set_full trip) (λ i x. late_listed ds l x i)

  pub delay_off : seconds ≡ 0 → delaying trips trip seconds delay ≡ Ok (set_to trip seconds delay)
  delay_off z =
      known trips trip n is there _
      ∙ cond-false (ltb 0 seconds && set_full trip (is_late delay)) _ _ (and_left _ _ (le-ltb 0 seconds (omega arith)))
      ∙ cond-false (ltb longest_delay seconds) _ _ (le-ltb longest_delay seconds (omega arith))

  module _ (t : tidy trip_of ds ≡ true) (l : all_late ds ≡ true) (some : seconds ≡ 0 → ⊥) where
    above : ltb 0 seconds ≡ true
    above = ne_above seconds some
      where
        ne_above : (s : ℕ) → (s ≡ 0 → ⊥) → ltb 0 s ≡ true
        ne_above s f = lt-ltb 0 s (omega arith)

    pub delay_full : no_room trip_of trip ds ≡ true → delaying trips trip seconds delay ≡ Err (TableFull trip)
    delay_full f = known trips trip n is there _ ∙ cond-true (ltb 0 seconds && set_full trip (is_late delay)) _ _ (and_from _ _ above (sym (room_as_set t l) ∙ f))

    room : no_room trip_of trip ds ≡ false → delaying trips trip seconds delay ≡ cond (ltb longest_delay seconds) (Err (LongDelay trip)) (Ok (set_to trip seconds delay))
    room f = known trips trip n is there _ ∙ cond-false (ltb 0 seconds && set_full trip (is_late delay)) _ _ (ap (λ b. ltb 0 seconds && b) (sym (room_as_set t l) ∙ f) ∙ and_none (ltb 0 seconds))
      where
        and_none : (b : Bool) → (b && false) ≡ false
        and_none true = refl
        and_none false = refl

    pub delay_long : no_room trip_of trip ds ≡ false → longest_delay < seconds → delaying trips trip seconds delay ≡ Err (LongDelay trip)
    delay_long f h = room f ∙ cond-true (ltb longest_delay seconds) _ _ (lt-ltb longest_delay seconds h)

    pub delay_done : no_room trip_of trip ds ≡ false → seconds ≤ longest_delay → delaying trips trip seconds delay ≡ Ok (set_to trip seconds delay)
    delay_done f h = room f ∙ cond-false (ltb longest_delay seconds) _ _ (le-ltb longest_delay seconds h)

-- a table with other trips' entries alone has room for this one's
pub room_left : (trip : ℕ) (ds : List Delay) → no_room trip_of trip ds ≡ false → length ds ≤ most_listed → length (without trip_of trip ds) < most_listed
room_left trip ds n few = go (listed trip_of trip ds) refl n
  where
    shorter : (es : List Delay) → length (without trip_of trip es) ≤ length es
    shorter [] = omega arith
    shorter (x ∷ es) = either (not (eqb x.trip trip)) (shorter es)
      where
        either : (b : Bool) → length (without trip_of trip es) ≤ length es → length (cond b (x ∷ without trip_of trip es) (without trip_of trip es)) ≤ suc (length es)
        either true h = omega arith
        either false h = omega arith

    one_less : (es : List Delay) → listed trip_of trip es ≡ true → length (without trip_of trip es) < length es
    one_less [] e = absurd (true≢false (sym e))
    one_less (x ∷ es) e = either (eqb x.trip trip) e (shorter es) (one_less es)
      where
        either : (b : Bool) → (b || listed trip_of trip es) ≡ true → length (without trip_of trip es) ≤ length es →
            (listed trip_of trip es ≡ true → length (without trip_of trip es) < length es) →
            length (cond (not b) (x ∷ without trip_of trip es) (without trip_of trip es)) < suc (length es)
        either true p h k = omega arith
        either false p h k = let q = k p in omega arith

    go : (b : Bool) → listed trip_of trip ds ≡ b → (not b && leb most_listed (length ds)) ≡ false → length (without trip_of trip ds) < most_listed
    go true p q = let l = one_less ds p in omega arith
    go false p q = let l = leb-false most_listed (length ds) q in let m = shorter ds in omega arith

-- the delays of a table with an entry more, and without a trip's
pub put_late : (trip s : ℕ) (ds es : List Delay) → es ≡ without trip_of trip ds ++ late_entry trip s ∷ [] → seconds_of es ≡ set_to trip s (seconds_of ds)
put_late trip s ds es e = ap seconds_of e ∙ (λ i t. seconds_put trip s ds t i)

pub taken_late : (trip s : ℕ) (ds es : List Delay) → s ≡ 0 → es ≡ without trip_of trip ds → seconds_of es ≡ set_to trip s (seconds_of ds)
taken_late trip s ds es z e = ap seconds_of e ∙ (λ i t. (seconds_without trip ds t ∙ ap (λ n. cond (eqb trip t) n (seconds_of ds t)) (sym z)) i)

-- the library's search finds a trip's delay
pub seconds_found : (ds : List Delay) (trip : ℕ) → seconds_of ds trip ≡ option_map_or (λ (d : Delay). d.seconds) (find (λ (d : Delay). d.trip == trip) ds) 0
seconds_found [] trip = refl
seconds_found (x ∷ ds) trip = go (x.trip == trip) (seconds_found ds trip)
  where
    go : (b : Bool) → seconds_of ds trip ≡ option_map_or (λ (d : Delay). d.seconds) (find (λ (d : Delay). d.trip == trip) ds) 0 → cond b x.seconds (seconds_of ds trip) ≡ option_map_or (λ (d : Delay). d.seconds) (cond b (Some x) (find (λ (d : Delay). d.trip == trip) ds)) 0
    go true ih = refl
    go false ih = ih

-- a table is full for a trip where the trip has no delay and 32 are listed
pub full_for : (ds : List Delay) (trip : ℕ) → all_late ds ≡ true → length ds ≤ most_listed → no_room trip_of trip ds ≡ (seconds_of ds trip == 0 && length ds == most_listed)
full_for ds trip l few =
    ap (λ b. not b && leb most_listed (length ds)) (late_listed ds l trip)
    ∙ ap (λ b. b && leb most_listed (length ds)) (none (seconds_of ds trip))
    ∙ ap (λ b. seconds_of ds trip == 0 && b) (last (leb most_listed (length ds)) refl)
  where
    last : (b : Bool) → leb most_listed (length ds) ≡ b → b ≡ (length ds == most_listed)
    last true e = sym (eq-eqb (length ds) most_listed (let m = leb-true most_listed (length ds) e in omega arith))
    last false e = sym (ne_eqb (length ds) most_listed (λ q. let m = leb-false most_listed (length ds) e in omega arith))

    none : (s : ℕ) → not (ltb 0 s) ≡ (s == 0)
    none zero = refl
    none (suc s) = ap not (lt-ltb 0 (suc s) (omega arith)) ∙ sym (ne_eqb (suc s) 0 (λ e. omega arith))

-- where the table has room for a trip's delay
pub has_room : (ds : List Delay) (trip : ℕ) → all_late ds ≡ true → length ds ≤ most_listed → (b : Bool) → b ≡ (seconds_of ds trip == 0 && length ds == most_listed) → no_room trip_of trip ds ≡ b
has_room ds trip l few b e = full_for ds trip l few ∙ sym e

-- a trip that was taken out is not listed
pub not_listed : (trip : ℕ) (ds es : List Delay) → es ≡ without trip_of trip ds → listed trip_of trip es ≡ false
not_listed trip ds es e =
    ap (listed trip_of trip) e ∙ listed_without trip_of trip ds trip ∙ ap (λ b. not b && listed trip_of trip ds) (eq-eqb trip trip refl)

pub late_listed_push : (d : Delay) (ds es : List Delay) (b : Bool) → es ≡ (if b then ds ++ d ∷ [] else ds) → 0 < d.seconds → d.seconds ≤ longest_delay → all_late ds ≡ true → all_late es ≡ true
late_listed_push d ds es true e h k l = ap all_late e ∙ late_push d.trip d.seconds h k ds l
late_listed_push d ds es false e h k l = ap all_late e ∙ l
