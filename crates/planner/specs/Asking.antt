-- All that is promised of a question that is put to a board.
-- Assumes nothing.
use Rattle.std.specs.Prelude.{◌≡◌, ℕ, List, take, is_ok, Ok, Err, Decides, Result}
use Rattle.timetable.specs.declared.hops.Hop.{Hop}
use Rattle.journeys.specs.declared.label.Label.{Label}
use Rattle.journeys.specs.declared.network.Footpath.{Footpath}
use Rattle.journeys.specs.declared.network.Stop.{Stop}
use Rattle.journeys.specs.declared.question.Question.{Question}
use Rattle.journeys.specs.Fare.{FareModel}
use Rattle.journeys.specs.Journey.{Setup}
use Rattle.journeys.specs.Leading.{LabelsAreReached}
use Rattle.scan.specs.Chains.{labels_in}
use Rattle.planner.specs.declared.answer.Answer.{Answer}
use Rattle.planner.specs.declared.refusal.Refusal.{Refusal}
use Rattle.planner.specs.declared.refusal.Refusal.TheVariants.{Question as Asked, Network, ShortOutput, StoreFull, AboardFull, ManyOffers}
use Rattle.planner.specs.Acceptance.{Acceptable}
use Rattle.planner.specs.Causes.{TellsCause}
use Rattle.planner.specs.Outcome.{Memory, space_in}
use Rattle.planner.specs.Promise.{setup_of, Promised}

-- the labels that a memory counts as written
abbrev pub labels_written : {S : Type 0} → Memory S → List (Label S)
labels_written n = labels_in (take n.written n.labels)

-- after a scan that has come to its end, the legs traced to each label written lead there within the ride limit; after one that
-- a full list has ended, no label counts as written
abbrev pub LeavesLabels : {S : Type 0} → Setup S → ℕ → Result Answer Refusal → Memory S → Type 0
LeavesLabels w limit (Ok answer) n = (n.written ≡ answer.labels) × LabelsAreReached w limit (labels_written n)
LeavesLabels w limit (Err (ManyOffers offers)) n = LabelsAreReached w limit (labels_written n)
LeavesLabels w limit (Err (StoreFull labels)) n = n.written ≡ 0
LeavesLabels w limit (Err (AboardFull hop)) n = n.written ≡ 0
LeavesLabels w limit (Err (Asked field)) n = Unit {0}
LeavesLabels w limit (Err (Network list place)) n = Unit {0}
LeavesLabels w limit (Err (ShortOutput output)) n = Unit {0}

-- The question q, put to a board of these fares, hops, stops and footpaths with the memory m, is answered r and leaves the
-- memory n.
pub record Promise {S : Type 0} (f : FareModel S) (hops : List Hop) (stops : List Stop) (paths : List Footpath) (q : Question) (m : Memory S) (r : Result Answer Refusal) (n : Memory S) : Type 0 where
  -- it is accepted exactly where no cause stands
  pub accepted : Decides (is_ok r) (Acceptable f hops stops paths q (space_in m))
  -- a refusal is for the one cause that stands
  pub cause : TellsCause f hops stops paths q (space_in m) r
  -- sheet and legs are in their form; each row is the offer of the journey handed out with it, and is beaten by none; each
  -- journey to the destination within the ride limit is met by a row
  pub shown : Promised (setup_of f hops paths q) q.destination q.rides r n.sheet n.legs
  -- the legs traced to each label that the scan has left lead to where it stands, within the ride limit
  pub labels : LeavesLabels (setup_of f hops paths q) q.rides r n
