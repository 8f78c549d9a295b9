-- A store of labels while it is written: what it holds, and that its labels are linked.
-- Assumes nothing.
use Rattle.std.specs.Prelude.{◌≡◌, ℕ, ◌<◌, ◌≤◌, List, map, length, take, get_or, None, Option}
use Rattle.journeys.specs.declared.label.Label.{Label}
use Rattle.journeys.specs.Runs.{overlay}
use Rattle.scan.specs.declared.filled.Filled.{Filled}
use Rattle.scan.specs.declared.link.Link.{Link}
use Rattle.scan.specs.declared.store.Store.{Store}
use Rattle.scan.specs.declared.stored_label.StoredLabel.{StoredLabel}
use Rattle.scan.specs.Chains.{slots, first_in, last_in, linked, labels_in}
use Rattle.scan.specs.Filling.{filled}
use Rattle.scan.specs.Links.{place_of}

-- its places, as a list of which the first are filled
abbrev pub as_filled : {S : Type 0} → Store S → Filled (StoredLabel S)
as_filled s = record { places = s.places; used = s.used; fits = s.fits }

-- the labels written
abbrev pub labels_of : {S : Type 0} → Store S → List (Label S)
labels_of s = labels_in (filled (as_filled s))

-- how many labels there is room for
abbrev pub room_of : {S : Type 0} → Store S → ℕ
room_of s = length s.places.now

-- the places that links stand for
abbrev pub places_of : List Link → List (Option ℕ)
places_of = map place_of

-- each label has the place of the next in its slot, and each slot that of its first and its last
pub record Chained {S : Type 0} (s : Store S) : Type 0 where
  pub firsts : length s.first ≡ slots
  pub lasts : length s.last ≡ slots
  pub linked : filled (as_filled s) ≡ linked (labels_of s)
  pub first : (k : ℕ) → k < slots → get_or (places_of s.first) k None ≡ first_in (λ l. l.stop) k 0 (labels_of s)
  pub last : (k : ℕ) → k < slots → get_or (places_of s.last) k None ≡ last_in (λ l. l.stop) k (labels_of s)

-- The same lent list: the labels written before stay, in front of what lies behind those written now; and they are linked.
pub record Extended {S : Type 0} (old new : Store S) : Type 0 where
  pub same : new.places.ghost_name ≡ old.places.ghost_name
  pub room : room_of new ≡ room_of old
  pub longer : length (labels_of old) ≤ length (labels_of new)
  pub first : take (length (labels_of old)) (labels_of new) ≡ labels_of old
  pub behind : new.places.now ≡ overlay (linked (labels_of new)) old.places.now
  pub chained : Chained new
