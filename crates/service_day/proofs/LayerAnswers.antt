-- What a layer that changes each hop answers.
use Rattle.std.proofs.Common.{◌≡◌, ℕ, zero, suc, ◌+◌, Bool, true, false, cond, ltb, List, [], ◌∷◌, map, Some, None, Option, sym, refl, ap, ◌∙◌, arith}
use Rattle.std.specs.List.{slice_get}
use Rattle.timetable.specs.declared.hops.Hop.{Hop}
use Rattle.timetable.specs.Table.{most_hops, trips_of, trips_upto, last_after, hop_at, held}
use Rattle.timetable.specs.Rule.{fit, keeps}
use Rattle.timetable.specs.RuleFacts.{fit_at}
use Rattle.service_day.specs.LayerRule.{changed}

module _ (f : Hop → Hop) where
  last_changed : (before : Option Hop) (hs : List Hop) → last_after (changed f before) (map f hs) ≡ changed f (last_after before hs)
  last_changed before [] = refl
  last_changed before (h ∷ hs) = last_changed (Some h) hs

  pub same_trips : ((h : Hop) → (f h).trip ≡ h.trip) → (hs : List Hop) (n : ℕ) → n ≡ trips_of hs → n ≡ trips_of (map f hs)
  same_trips trip hs n e = e ∙ ap held (sym (ap trips_upto (last_changed None hs) ∙ go (last_after None hs)))
    where
      go : (o : Option Hop) → trips_upto (changed f o) ≡ trips_upto o
      go None = refl
      go (Some h) = ap (λ t. t + 1) (trip h)

  nth_changed : (hs : List Hop) (i : ℕ) → slice_get (map f hs) i ≡ changed f (slice_get hs i)
  nth_changed [] i = refl
  nth_changed (h ∷ hs) zero = refl
  nth_changed (h ∷ hs) (suc i) = nth_changed hs i

  -- the hop below, changed
  pub hop_changed : (hs : List Hop) (i : ℕ) (o : Option Hop) → o ≡ hop_at hs i → changed f o ≡ hop_at (map f hs) i
  hop_changed hs i o e = ap (changed f) e ∙ go (ltb i most_hops)
    where
      go : (b : Bool) → changed f (cond b (slice_get hs i) None) ≡ cond b (slice_get (map f hs) i) None
      go true = sym (nth_changed hs i)
      go false = refl

-- a hop that a timetable answers keeps its limits
pub answered_fit : (hs : List Hop) → keeps hs ≡ true → (i : ℕ) (h : Hop) → Some h ≡ hop_at hs i → fit h ≡ true
answered_fit hs k i h e = go (ltb i most_hops) e
  where
    go : (b : Bool) → Some h ≡ cond b (slice_get hs i) None → fit h ≡ true
    go true p = fit_at None hs i h k (sym p)
    go false p = let z : ◌≡◌ {A = ℕ} 0 1 = cc in absurd (omega arith)
