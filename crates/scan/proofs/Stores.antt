-- A store after a label is written. Assumes nothing.
use Rattle.std.proofs.Common.{◌≡◌, ℕ, suc, ◌+◌, ◌<◌, ◌==◌, ◌⊎◌, Bool, true, false, cond, List, [], ◌∷◌, ◌++◌, length, get_or, take, drop, set, Some, None, Option, sym, refl, ap, ◌∙◌, subst, inl, inr, arith, length-append, get_or-take}
use lib.ListN.{length-map}
use Rattle.std.proofs.Math.Seq.{take-append_seam}
use Rattle.std.proofs.lemmas.Bool.{eqb-true, eq-eqb, cases_eq}
use Rattle.std.proofs.lemmas.List.{get_or-set_same, get_or-set_other, length-set, map-set}
use Rattle.journeys.specs.declared.label.Label.{Label}
use Rattle.journeys.specs.Runs.{overlay}
use Rattle.scan.specs.declared.stored_label.StoredLabel.{StoredLabel}
use Rattle.scan.specs.declared.store.Store.{Store}
use Rattle.scan.specs.Links.{link, place_of}
use Rattle.scan.specs.Chains.{slot, slots, first_in, last_in, linked, labels_in}
use Rattle.scan.specs.Filling.{filled, Kept}
use Rattle.scan.specs.Stores.{as_filled, Chained, Extended, labels_of, places_of}
use Rattle.scan.proofs.Chains.{or_at, Within, Agree, first_push, last_push, last_within, agree, led, not_led, lead_from, alone, stop_of, labels_linked, length_linked, linked_push, linked_here}
use Rattle.scan.proofs.Filling.{length_filled}
use Rattle.scan.proofs.Loops.{overlay_overlay}

pub apart : (j k : ℕ) → (j ≡ k → ⊥) → (j == k) ≡ false
apart j k ne = go (j == k) refl
  where
    go : (b : Bool) → (j == k) ≡ b → b ≡ false
    go true t = absurd (ne (eqb-true j k t))
    go false t = refl

-- where the labels of each slot begin, once a label was written at place n in slot k
abbrev pub first_after : Option ℕ → ℕ → ℕ → List (Option ℕ) → List (Option ℕ)
first_after (Some p) k n firsts = firsts
first_after None k n firsts = set firsts k (Some n)

module _ {S : Type 0} where
  pub length_labels : (s : Store S) → Chained s → length (labels_of s) ≡ s.used
  length_labels s c = sym (length_linked 0 (labels_of s)) ∙ sym (ap length c.linked) ∙ length_filled (as_filled s)

  pub stored : (s : Store S) (p : ℕ) (y : StoredLabel S) → Chained s → p < length (labels_of s) → y ≡ get_or s.places.now p y
      → (drop p (labels_of s) ≡ y.label ∷ drop (suc p) (labels_of s)) × (place_of y.next ≡ first_in stop_of (slot y.label.stop) (suc p) (drop (suc p) (labels_of s)))
  stored s p y c h e = linked_here (labels_of s) p y h (e ∙ sym (get_or-take s.used s.places.now p y (omega (arith, h, length_labels s c))) ∙ ap (λ l. get_or l p y) c.linked)

  -- the last of a slot is a place that is written
  pub last_written : (s : Store S) (k p : ℕ) → Chained s → k < slots → get_or (places_of s.last) k None ≡ Some p → p < s.used
  last_written s k p c h e = let w = subst (Within 0 (length (labels_of s))) (sym (c.last k h) ∙ e) (last_within stop_of k (labels_of s)) in omega (arith, w.1, length_labels s c)

  module _ (ls : List (Label S)) (c : Label S) (n : ℕ) (is : n ≡ length ls) where
    place : 0 + length ls ≡ n
    place = omega (arith, is)

    firsts_after : (firsts : List (Option ℕ)) → length firsts ≡ slots → slot c.stop < slots → ((j : ℕ) → j < slots → get_or firsts j None ≡ first_in stop_of j 0 ls)
        → (o : Option ℕ) → Agree o (first_in stop_of (slot c.stop) 0 ls) → (j : ℕ) → j < slots → get_or (first_after o (slot c.stop) n firsts) j None ≡ first_in stop_of j 0 (ls ++ (c ∷ []))
    firsts_after firsts many within were o a j h = go o a (cases_eq j (slot c.stop)) ∙ sym (first_push stop_of j 0 ls c ∙ ap (λ (m : ℕ). or_at (first_in stop_of j 0 ls) (cond (slot c.stop == j) (Some m) None)) place)
      where
        go : (o : Option ℕ) → Agree o (first_in stop_of (slot c.stop) 0 ls) → (j ≡ slot c.stop) ⊎ (j ≡ slot c.stop → ⊥) → get_or (first_after o (slot c.stop) n firsts) j None ≡ or_at (first_in stop_of j 0 ls) (led j n c)
        go (Some p) a (inl e) = were j h ∙ sym (subst (λ (k : ℕ). or_at (first_in stop_of k 0 ls) (led j n c) ≡ first_in stop_of k 0 ls) (sym e) (a (led j n c)))
        go (Some p) a (inr ne) = were j h ∙ sym (not_led j n c (first_in stop_of j 0 ls) (apart j (slot c.stop) ne))
        go None a (inl e) =
            ap (λ (k : ℕ). get_or (set firsts (slot c.stop) (Some n)) k None) e ∙ get_or-set_same firsts (slot c.stop) (Some n) None (omega (arith, within, many))
            ∙ sym (ap (λ o. or_at o (led j n c)) (subst (λ (k : ℕ). first_in stop_of k 0 ls ≡ None) (sym e) a) ∙ ap (λ b. cond b (Some n) None) (eq-eqb (slot c.stop) j (sym e)))
        go None a (inr ne) = get_or-set_other firsts (slot c.stop) j (Some n) None ne ∙ were j h ∙ sym (not_led j n c (first_in stop_of j 0 ls) (apart j (slot c.stop) ne))

    lasts_after : (lasts : List (Option ℕ)) → length lasts ≡ slots → slot c.stop < slots → ((j : ℕ) → j < slots → get_or lasts j None ≡ last_in stop_of j ls)
        → (j : ℕ) → j < slots → get_or (set lasts (slot c.stop) (Some n)) j None ≡ last_in stop_of j (ls ++ (c ∷ []))
    lasts_after lasts many within were j h = go (cases_eq j (slot c.stop)) ∙ sym (last_push stop_of j ls c ∙ ap (λ (m : ℕ). cond (slot c.stop == j) (Some m) (last_in stop_of j ls)) (sym is))
      where
        go : (j ≡ slot c.stop) ⊎ (j ≡ slot c.stop → ⊥) → get_or (set lasts (slot c.stop) (Some n)) j None ≡ cond (slot c.stop == j) (Some n) (last_in stop_of j ls)
        go (inl e) =
            ap (λ (k : ℕ). get_or (set lasts (slot c.stop) (Some n)) k None) e ∙ get_or-set_same lasts (slot c.stop) (Some n) None (omega (arith, within, many))
            ∙ sym (ap (λ b. cond b (Some n) (last_in stop_of j ls)) (eq-eqb (slot c.stop) j (sym e)))
        go (inr ne) = get_or-set_other lasts (slot c.stop) j (Some n) None ne ∙ were j h ∙ sym (ap (λ b. cond b (Some n) (last_in stop_of j ls)) (apart (slot c.stop) j (λ e. ne (sym e))))

  -- a label is written next, and the last of its slot leads to it
  module _ (old new : Store S) (c : Label S) (n : ℕ) (was : Chained old) (is : n ≡ old.used) (within : slot c.stop < slots) (o : Option ℕ) (found : get_or (places_of old.last) (slot c.stop) None ≡ o)
      (filled_is : filled (as_filled new) ≡ lead_from o n (filled (as_filled old)) ++ (alone c ∷ []))
      (first_is : places_of new.first ≡ first_after o (slot c.stop) n (places_of old.first)) (last_is : places_of new.last ≡ set (places_of old.last) (slot c.stop) (Some n)) where
    place_is : n ≡ length (labels_of old)
    place_is = omega (arith, is, length_labels old was)

    last_found : last_in stop_of (slot c.stop) (labels_of old) ≡ o
    last_found = sym (was.last (slot c.stop) within) ∙ found

    now_linked : filled (as_filled new) ≡ linked (labels_of old ++ (c ∷ []))
    now_linked =
        filled_is ∙ (λ v. lead_from (sym last_found v) ((let z : n ≡ 0 + length (labels_of old) = omega (arith, place_is) in z) v) (was.linked v) ++ (alone c ∷ []))
        ∙ sym (linked_push 0 (labels_of old) c)

    pub written_labels : labels_of new ≡ labels_of old ++ (c ∷ [])
    written_labels = ap labels_in now_linked ∙ labels_linked 0 (labels_of old ++ (c ∷ []))

    pub written_chained : Chained new
    written_chained = record {
      firsts = sym (length-map new.first place_of) ∙ ap length first_is ∙ many o;
      lasts = sym (length-map new.last place_of) ∙ ap length last_is ∙ length-set (places_of old.last) (slot c.stop) (Some n) ∙ length-map old.last place_of ∙ was.lasts;
      linked = now_linked ∙ ap linked (sym written_labels);
      first = λ j h. (λ v. get_or (first_is v) j None) ∙ firsts_after (labels_of old) c n place_is (places_of old.first) (length-map old.first place_of ∙ was.firsts) within was.first o agreed j h ∙ ap (first_in stop_of j 0) (sym written_labels);
      last = λ j h. (λ v. get_or (last_is v) j None) ∙ lasts_after (labels_of old) c n place_is (places_of old.last) (length-map old.last place_of ∙ was.lasts) within was.last j h ∙ ap (last_in stop_of j) (sym written_labels);
    }
      where
        agreed : Agree o (first_in stop_of (slot c.stop) 0 (labels_of old))
        agreed = subst (λ z. Agree z (first_in stop_of (slot c.stop) 0 (labels_of old))) last_found (agree stop_of (slot c.stop) 0 (labels_of old))

        many : (o : Option ℕ) → length (first_after o (slot c.stop) n (places_of old.first)) ≡ slots
        many (Some p) = length-map old.first place_of ∙ was.firsts
        many None = length-set (places_of old.first) (slot c.stop) (Some n) ∙ length-map old.first place_of ∙ was.firsts

    pub written_extended : new.places.ghost_name ≡ old.places.ghost_name → length new.places.now ≡ length old.places.now
        → new.places.now ≡ overlay (filled (as_filled new)) old.places.now → Extended old new
    written_extended same room behind = record {
      same = same;
      room = room;
      longer = omega (arith, more);
      first = ap (take (length (labels_of old))) written_labels ∙ take-append_seam (labels_of old) (c ∷ []);
      behind = behind ∙ ap (λ l. overlay l old.places.now) (now_linked ∙ ap linked (sym written_labels));
      chained = written_chained;
    }
      where
        more : length (labels_of new) ≡ length (labels_of old) + 1
        more = ap length written_labels ∙ length-append (labels_of old) (c ∷ [])

  -- The same in steps: the last of the slot leads to the place, or the slot begins there, and then the label fills it.
  module _ (old mid new : Store S) (c : Label S) (k : ℕ) (was : Chained old) (k_is : k ≡ slot c.stop) (within : k < slots) (o : Option ℕ) (found : get_or (places_of old.last) k None ≡ o)
      (led_is : filled (as_filled mid) ≡ lead_from o old.used (filled (as_filled old))) (used_is : mid.used ≡ old.used) (first_is : places_of mid.first ≡ first_after o k old.used (places_of old.first)) (last_is : mid.last ≡ old.last)
      (same : mid.places.ghost_name ≡ old.places.ghost_name) (room : length mid.places.now ≡ length old.places.now) (behind : mid.places.now ≡ overlay (filled (as_filled mid)) old.places.now)
      (filled_is : filled (as_filled new) ≡ filled (as_filled mid) ++ (alone c ∷ [])) (kept : Kept (as_filled mid) (as_filled new)) (new_first : new.first ≡ mid.first) (new_last : new.last ≡ set mid.last k (link (Some mid.used))) where
    in_slot : slot c.stop < slots
    in_slot = omega (arith, within, k_is)

    found_in_slot : get_or (places_of old.last) (slot c.stop) None ≡ o
    found_in_slot = ap (λ (j : ℕ). get_or (places_of old.last) j None) (sym k_is) ∙ found

    all_filled : filled (as_filled new) ≡ lead_from o old.used (filled (as_filled old)) ++ (alone c ∷ [])
    all_filled = filled_is ∙ ap (λ l. l ++ (alone c ∷ [])) led_is

    firsts_are : places_of new.first ≡ first_after o (slot c.stop) old.used (places_of old.first)
    firsts_are = ap places_of new_first ∙ first_is ∙ ap (λ (j : ℕ). first_after o j old.used (places_of old.first)) k_is

    lasts_are : places_of new.last ≡ set (places_of old.last) (slot c.stop) (Some old.used)
    lasts_are = ap places_of new_last ∙ map-set place_of mid.last k (link (Some mid.used)) ∙ (λ v. set (places_of (last_is v)) (k_is v) (Some (used_is v)))

    pub after_labels : labels_of new ≡ labels_of old ++ (c ∷ [])
    after_labels = written_labels old new c old.used was refl in_slot o found_in_slot all_filled firsts_are lasts_are

    pub after_extended : Extended old new
    after_extended =
        written_extended old new c old.used was refl in_slot o found_in_slot all_filled firsts_are lasts_are (kept.same ∙ same) (kept.room ∙ room)
        (kept.behind ∙ ap (overlay (filled (as_filled new))) behind ∙ overlay_overlay (filled (as_filled mid)) (filled (as_filled new)) old.places.now (omega (arith, ap length filled_is, length-append (filled (as_filled mid)) (alone c ∷ []))))
