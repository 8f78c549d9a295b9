-- Of each call exactly one cause stands where it is refused, and none where it is done.
use Rattle.std.proofs.Common.{◌≡◌, ℕ, ◌<◌, Bool, true, false, cond, not, ◌&&◌, ltb, leb, Ok, Err, Result, sym, refl, ap, ◌∙◌, subst, arith}
use Rattle.std.proofs.lemmas.Bool.{and_parts, and_from, and_right, le-leb, lt-leb, leb-true, leb-false, ltb-true, lt-ltb, not-true, true≢false, cond-true, cond-false}
use Rattle.timetable.specs.Refusals.{Cause}
use Rattle.service_day.specs.declared.refusal.Refusal.{Refusal}
use Rattle.service_day.specs.declared.refusal.Refusal.TheVariants.{NoSuchTrip, TableFull, NotCancelled, LongDelay}
use Rattle.service_day.specs.Causes.{NoEntryLeft, MayNotCancel, MayNotReinstate, MayNotDelay, RefusesFor, no_such_trip, no_entry_left, not_in_set, too_long}
use Rattle.service_day.specs.Days.{longest_delay, how_many, set_full, is_late, put_in, take_out, set_to, cancelling, reinstating, delaying}
use Rattle.service_day.specs.Refusals.{cause, told}
use Rattle.service_day.specs.Tables.{most_listed}

-- a refusal's cause stands; and an answer is refused for a cause
abbrev Reason : {X : Type 0} → (Cause → Type 0) → Result X Refusal → Type 0
Reason Stands (Ok x) = Unit {0}
Reason Stands (Err refusal) = Stands (cause refusal)

abbrev IsRefusedFor : {X : Type 0} → Result X Refusal → Cause → Type 0
IsRefusedFor (Ok x) c = ⊥
IsRefusedFor (Err refusal) c = c ≡ cause refusal

-- an answer refuses for a relation's causes if its reason stands and it is refused for each that stands
settled : {X : Type 0} (Stands : Cause → Type 0) (o : Result X Refusal) (r : Result (Unit {0}) Refusal) → r ≡ told o →
    Reason Stands o → ((c : Cause) → Stands c → IsRefusedFor o c) → RefusesFor Stands r
settled Stands o r e reason alone = subst (RefusesFor Stands) (sym e) (go o reason alone)
  where
    go : {X : Type 0} (q : Result X Refusal) → Reason Stands q → ((c : Cause) → Stands c → IsRefusedFor q c) → RefusesFor Stands (told q)
    go (Ok x) s f = f
    go (Err refusal) s f = (s, f)

-- an outcome that is known to be a refusal is refused for its cause
known : {X : Type 0} {o : Result X Refusal} (refusal : Refusal) → o ≡ Err refusal → IsRefusedFor o (cause refusal)
known refusal e = subst (λ q. IsRefusedFor q (cause refusal)) (sym e) refl

module _ (trip : ℕ) (set : ℕ → Bool) where
  full_fact : set_full trip set ≡ true → NoEntryLeft trip set
  full_fact e =
      let p = and_parts (not (set trip)) _ e in
      record { needed = not-true (set trip) p.0; full = leb-true most_listed (how_many set) p.1 }

  full_tested : NoEntryLeft trip set → set_full trip set ≡ true
  full_tested n = and_from _ _ (ap not n.needed) (le-leb most_listed (how_many set) n.full)

module _ (trips trip : ℕ) (set : ℕ → Bool) where
  cancel_reason : Reason (MayNotCancel trips trip set) (cancelling trips trip set)
  cancel_reason = go (leb trips trip) refl (set_full trip set) refl
    where
      go : (a : Bool) → leb trips trip ≡ a → (b : Bool) → set_full trip set ≡ b →
          Reason (MayNotCancel trips trip set) (cond a (Err (NoSuchTrip trip)) (cond b (Err (TableFull trip)) (Ok (put_in trip set))))
      go true p b q = no_such_trip (leb-true trips trip p)
      go false p true q = no_entry_left (leb-false trips trip p) (full_fact trip set q)
      go false p false q = tt

  cancel_alone : (c : Cause) → MayNotCancel trips trip set c → IsRefusedFor (cancelling trips trip set) c
  cancel_alone c (no_such_trip past) = known (NoSuchTrip trip) (cond-true (leb trips trip) _ _ (le-leb trips trip past))
  cancel_alone c (no_entry_left there full) =
      known (TableFull trip) (cond-false (leb trips trip) _ _ (lt-leb trips trip there) ∙ cond-true (set_full trip set) _ _ (full_tested trip set full))

  pub cancel_refuses : (r : Result (Unit {0}) Refusal) → r ≡ told (cancelling trips trip set) → RefusesFor (MayNotCancel trips trip set) r
  cancel_refuses r e = settled (MayNotCancel trips trip set) (cancelling trips trip set) r e cancel_reason cancel_alone

  reinstate_reason : Reason (MayNotReinstate trips trip set) (reinstating trips trip set)
  reinstate_reason = go (leb trips trip) refl (set trip) refl
    where
      go : (a : Bool) → leb trips trip ≡ a → (b : Bool) → set trip ≡ b →
          Reason (MayNotReinstate trips trip set) (cond a (Err (NoSuchTrip trip)) (cond b (Ok (take_out trip set)) (Err (NotCancelled trip))))
      go true p b q = no_such_trip (leb-true trips trip p)
      go false p true q = tt
      go false p false q = not_in_set (leb-false trips trip p) q

  reinstate_alone : (c : Cause) → MayNotReinstate trips trip set c → IsRefusedFor (reinstating trips trip set) c
  reinstate_alone c (no_such_trip past) = known (NoSuchTrip trip) (cond-true (leb trips trip) _ _ (le-leb trips trip past))
  reinstate_alone c (not_in_set there out) =
      known (NotCancelled trip) (cond-false (leb trips trip) _ _ (lt-leb trips trip there) ∙ cond-false (set trip) _ _ out)

  pub reinstate_refuses : (r : Result (Unit {0}) Refusal) → r ≡ told (reinstating trips trip set) → RefusesFor (MayNotReinstate trips trip set) r
  reinstate_refuses r e = settled (MayNotReinstate trips trip set) (reinstating trips trip set) r e reinstate_reason reinstate_alone

module _ (trips trip seconds : ℕ) (delay : ℕ → ℕ) where
  abbrev needs : Bool
  needs = ltb 0 seconds && set_full trip (is_late delay)

  -- with no need of an entry that is not there
  free : needs ≡ false → 0 < seconds → NoEntryLeft trip (is_late delay) → ⊥
  free q h n = true≢false (sym (and_from (ltb 0 seconds) _ (lt-ltb 0 seconds h) (full_tested trip (is_late delay) n)) ∙ q)

  delay_reason : Reason (MayNotDelay trips trip seconds delay) (delaying trips trip seconds delay)
  delay_reason = go (leb trips trip) refl needs refl (ltb longest_delay seconds) refl
    where
      go : (a : Bool) → leb trips trip ≡ a → (b : Bool) → needs ≡ b → (c : Bool) → ltb longest_delay seconds ≡ c →
          Reason (MayNotDelay trips trip seconds delay) (cond a (Err (NoSuchTrip trip)) (cond b (Err (TableFull trip)) (cond c (Err (LongDelay trip)) (Ok (set_to trip seconds delay)))))
      go true p b q c r = no_such_trip (leb-true trips trip p)
      go false p true q c r =
          let parts = and_parts (ltb 0 seconds) _ q in
          no_entry_left (leb-false trips trip p) (ltb-true 0 seconds parts.0) (full_fact trip (is_late delay) parts.1)
      go false p false q true r =
          let long = ltb-true longest_delay seconds r in
          too_long (leb-false trips trip p) (free q (omega arith)) long
      go false p false q false r = tt

  delay_alone : (c : Cause) → MayNotDelay trips trip seconds delay c → IsRefusedFor (delaying trips trip seconds delay) c
  delay_alone c (no_such_trip past) = known (NoSuchTrip trip) (cond-true (leb trips trip) _ _ (le-leb trips trip past))
  delay_alone c (no_entry_left there some full) =
      known (TableFull trip)
      (cond-false (leb trips trip) _ _ (lt-leb trips trip there)
      ∙ cond-true needs _ _ (and_from (ltb 0 seconds) _ (lt-ltb 0 seconds some) (full_tested trip (is_late delay) full)))
  delay_alone c (too_long there room long) =
      known (LongDelay trip)
      (cond-false (leb trips trip) _ _ (lt-leb trips trip there)
      ∙ cond-false needs _ _ (and_right (ltb 0 seconds) _ (not_tested (set_full trip (is_late delay)) refl))
      ∙ cond-true (ltb longest_delay seconds) _ _ (lt-ltb longest_delay seconds long))
    where
      not_tested : (b : Bool) → set_full trip (is_late delay) ≡ b → b ≡ false
      not_tested true e = absurd (room (full_fact trip (is_late delay) e))
      not_tested false e = refl

  pub delay_refuses : (r : Result (Unit {0}) Refusal) → r ≡ told (delaying trips trip seconds delay) → RefusesFor (MayNotDelay trips trip seconds delay) r
  delay_refuses r e = settled (MayNotDelay trips trip seconds delay) (delaying trips trip seconds delay) r e delay_reason delay_alone
