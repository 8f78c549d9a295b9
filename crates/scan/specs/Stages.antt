-- The stage of a scan that lies in its two lent lists.
-- Assumes nothing.
use Rattle.std.specs.Prelude.{◌≡◌, ℕ, Bool, not, ◌&&◌, ◌||◌, ◌==◌, length, is_none}
use Rattle.timetable.specs.declared.hops.Hop.{Hop}
use Rattle.journeys.specs.declared.label.Passenger.{Passenger}
use Rattle.journeys.specs.Scan.{Room, Stage}
use Rattle.scan.specs.declared.filled.Filled.{Filled}
use Rattle.scan.specs.declared.ride.Ride.{Ride}
use Rattle.scan.specs.declared.store.Store.{Store}
use Rattle.scan.specs.Chains.{slot, first_in}
use Rattle.scan.specs.Filling.{filled}
use Rattle.scan.specs.Stores.{Extended, labels_of, room_of}

-- the labels written and those aboard a trip
abbrev pub stage : {S : Type 0} → ℕ → Store S → Filled (Passenger S) → Stage S
stage trip labels aboard = record { trip = trip; aboard = filled aboard; places = aboard.places.now; store = labels_of labels }

abbrev pub room : {S : Type 0} → Store S → Filled (Passenger S) → Room
room labels aboard = record { labels = room_of labels; aboard = length aboard.places.now }

abbrev pub stage_of : {S : Type 0} → Ride S → Stage S
stage_of r = stage r.trip r.labels.now r.aboard.now

abbrev pub room_for : {S : Type 0} → Ride S → Room
room_for r = room r.labels.now r.aboard.now

-- nobody would ride the hop h: no label is in the slot of its stop, and those aboard are on another trip, if there are any
abbrev pub idle : {S : Type 0} → Hop → Ride S → Bool
idle h r = is_none (first_in (λ l. l.stop) (slot h.from) 0 (labels_of r.labels.now)) && (not (r.trip == h.trip) || r.aboard.now.used == 0)

-- The same two lists: the labels stay, and those aboard have their places still.
pub record Carried {S : Type 0} (old new : Ride S) : Type 0 where
  pub labels : Extended old.labels.now new.labels.now
  pub same : new.aboard.now.places.ghost_name ≡ old.aboard.now.places.ghost_name
  pub room : length new.aboard.now.places.now ≡ length old.aboard.now.places.now
  pub same_labels : new.labels.ghost_name ≡ old.labels.ghost_name
  pub same_aboard : new.aboard.ghost_name ≡ old.aboard.ghost_name
