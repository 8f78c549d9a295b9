-- How the first places of a lent list fill up, one at a time and in a loop. Assumes nothing.
use Rattle.std.proofs.Common.{◌≡◌, ℕ, ◌+◌, ◌<◌, [], ◌∷◌, ◌++◌, length, take, drop, set, sym, refl, ap, ◌∙◌, arith}
use Rattle.std.proofs.lemmas.List.{take-append-drop, take-take, take-set-le, take_more_set, length-set, length-take-le}
use Rattle.journeys.specs.Runs.{overlay}
use Rattle.scan.specs.declared.filled.Filled.{Filled}
use Rattle.scan.specs.Filling.{filled, Kept}
use Rattle.scan.proofs.Loops.{overlay_next, overlay_overlay}

pub length_filled : {X : Type 0} (f : Filled X) → length (filled f) ≡ f.used
length_filled f = length-take-le f.used f.places.now f.fits

-- nothing is written over
pub overlay_same : {X : Type 0} (f : Filled X) → f.places.now ≡ overlay (filled f) f.places.now
overlay_same f = sym (take-append-drop f.used f.places.now) ∙ ap (λ (n : ℕ). filled f ++ drop n f.places.now) (sym (length_filled f))

pub kept_same : {X : Type 0} (f : Filled X) → Kept f f
kept_same f = record { same = refl; room = refl; longer = omega arith; first = refl; behind = overlay_same f }

pub kept_then : {X : Type 0} (a b c : Filled X) → Kept a b → Kept b c → Kept a c
kept_then a b c p q = record {
  same = q.same ∙ p.same;
  room = q.room ∙ p.room;
  longer = omega arith;
  first = sym (take-take a.used b.used c.places.now p.longer) ∙ ap (take a.used) q.first ∙ take-take a.used b.used b.places.now p.longer ∙ p.first;
  behind = q.behind ∙ ap (overlay (filled c)) p.behind ∙ overlay_overlay (filled b) (filled c) a.places.now (omega (arith, length_filled b, length_filled c));
}

-- one place more is filled
pub kept_next : {X : Type 0} (old new : Filled X) (x : X) → old.used < length old.places.now → new.places.ghost_name ≡ old.places.ghost_name → new.used ≡ old.used + 1 → new.places.now ≡ set old.places.now old.used x → Kept old new
kept_next old new x h g n e =
    let f : filled new ≡ filled old ++ (x ∷ []) = (λ v. take (n v) (e v)) ∙ take_more_set old.places.now old.used x h in
    record {
      same = g;
      room = ap length e ∙ length-set old.places.now old.used x;
      longer = omega arith;
      first = ap (take old.used) e ∙ take-set-le old.used old.places.now old.used x (omega arith);
      behind = e ∙ overlay_next old.places.now old.used x h ∙ ap (λ l. overlay l old.places.now) (sym f);
    }
