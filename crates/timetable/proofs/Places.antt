-- What stands at a place, and last, in a list of hops.
use Rattle.std.proofs.Common.{◌≡◌, ℕ, ◌-◌, ◌<◌, ◌≤◌, false, ltb, List, [], ◌∷◌, length, get_or, Some, None, sym, refl, ap, ◌∙◌, arith}
use Rattle.std.specs.List.{slice_get}
use Rattle.std.proofs.lemmas.Option.{slice_get-get_or, slice_get_past}
use Rattle.std.proofs.lemmas.Bool.{lt-ltb, le-ltb, cond-true, cond-false}
use Rattle.timetable.specs.declared.hops.Hop.{Hop}
use Rattle.timetable.specs.Table.{most_hops, hop_at, last_after}

-- what a read past the end would give
abbrev pub blank : Hop
blank = record { trip = 0; from = 0; to = 0; departure = 0; arrival = 0; metres = 0; level = 0; event = 0; runs = false }

pub hop_at_place : (hs : List Hop) (place : ℕ) (d : Hop) → place < most_hops → place < length hs → Some (get_or hs place d) ≡ hop_at hs place
hop_at_place hs place d small within =
    sym (cond-true (ltb place most_hops) (slice_get hs place) None (lt-ltb place most_hops small) ∙ slice_get-get_or hs place d within)

pub hop_at_far : (hs : List Hop) (place : ℕ) → most_hops ≤ place → None ≡ hop_at hs place
hop_at_far hs place far = sym (cond-false (ltb place most_hops) (slice_get hs place) None (le-ltb place most_hops far))

pub hop_at_end : (hs : List Hop) (place : ℕ) → place < most_hops → length hs ≤ place → None ≡ hop_at hs place
hop_at_end hs place small past = sym (cond-true (ltb place most_hops) (slice_get hs place) None (lt-ltb place most_hops small) ∙ slice_get_past hs place past)

last_is : (g : Hop) (hs : List Hop) (d : Hop) → last_after (Some g) hs ≡ Some (get_or (g ∷ hs) (length hs) d)
last_is g [] d = refl
last_is g (h ∷ hs) d = last_is h hs d

pub last_read : (hs : List Hop) → last_after None hs ≡ slice_get hs (length hs - 1)
last_read [] = refl
last_read (g ∷ hs) = last_is g hs blank ∙ sym (slice_get-get_or (g ∷ hs) (length hs) blank (omega arith)) ∙ ap (slice_get (g ∷ hs)) (omega arith)
