-- What a question answers, and what it leaves in each of the four lists that it is handed, for every input.
-- Assumes nothing.
use Rattle.std.specs.Prelude.{◌≡◌, ℕ, cond, List, map, length, Some, None, Ok, Err, Option, Result, nat_lt}
use Rattle.timetable.specs.declared.hops.Hop.{Hop}
use Rattle.fares.specs.declared.fare_state.FareState.{FareState}
use Rattle.fares.specs.Measures.{MeasureModel}
use Rattle.fares.specs.Tariffs.{TariffModel}
use Rattle.journeys.specs.declared.full.Full.{Full}
use Rattle.journeys.specs.declared.full.Full.TheVariants.{Store, Aboard}
use Rattle.journeys.specs.declared.label.Passenger.{Passenger}
use Rattle.journeys.specs.declared.leg.Leg.{Leg}
use Rattle.journeys.specs.declared.network.Footpath.{Footpath}
use Rattle.journeys.specs.declared.network.Stop.{Stop}
use Rattle.journeys.specs.declared.question.Question.{Question}
use Rattle.journeys.specs.Fare.{FareModel}
use Rattle.journeys.specs.NetworkFare.{fare_over}
use Rattle.journeys.specs.Runs.{Run, on, ended, overlay}
use Rattle.journeys.specs.Scan.{Stage, scan_for}
use Rattle.journeys.specs.Selection.{best_offers}
use Rattle.scan.specs.declared.stored_label.StoredLabel.{StoredLabel}
use Rattle.scan.specs.Chains.{linked}
use Rattle.sheet.specs.Format.{encode}
use Rattle.sheet.specs.Outcome.{laid}
use Rattle.sheet.specs.Rows.{most_rows}
use Rattle.planner.specs.declared.answer.Answer.{Answer}
use Rattle.planner.specs.declared.refusal.Refusal.{Refusal}
use Rattle.planner.specs.declared.refusal.Refusal.TheVariants.{StoreFull, AboardFull, ManyOffers}
use Rattle.planner.specs.Handout.{row_of, legs_from}
use Rattle.planner.specs.Limits.{fault_of}

-- the four lists, and how many labels the store counts as written
pub record Memory (S : Type 0) : Type 0 where
  pub labels : List (StoredLabel S)
  pub written : ℕ
  pub aboard : List (Passenger S)
  pub sheet : List ℕ
  pub legs : List Leg

-- how many things each of the four lists has room for
pub record Space : Type 0 where
  pub labels : ℕ
  pub aboard : ℕ
  pub sheet : ℕ
  pub legs : ℕ

abbrev pub space_in : {S : Type 0} → Memory S → Space
space_in m = record { labels = length m.labels; aboard = length m.aboard; sheet = length m.sheet; legs = length m.legs }

-- an answer, and the lists as they are left
pub record Outcome (S : Type 0) : Type 0 where
  pub answer : Result Answer Refusal
  pub left : Memory S

abbrev pub refused : {S : Type 0} → Refusal → Memory S → Outcome S
refused refusal m = record { answer = Err refusal; left = m }

-- the scan's two lists, once it has come to a stage, where so many labels count as written; each of them has the place of the
-- next in the slot of its stop
abbrev pub used : {S : Type 0} → ℕ → Stage S → Memory S → Memory S
used written s m = record { labels = overlay (linked s.store) m.labels; written = written; aboard = s.places; sheet = m.sheet; legs = m.legs }

-- the sheet and the legs of the best offers, in front of what else the lists hold
abbrev pub printed : {S : Type 0} → FareModel S → ℕ → Stage S → Memory S → Memory S
printed f dest s m = record {
  labels = overlay (linked s.store) m.labels;
  written = length s.store;
  aboard = s.places;
  sheet = laid (encode (map row_of (best_offers f dest s.store))) m.sheet;
  legs = laid (legs_from s.store 0 (best_offers f dest s.store)) m.legs;
}

abbrev pub counted : {S : Type 0} → FareModel S → ℕ → Stage S → Answer
counted f dest s = record {
  rows = length (best_offers f dest s.store);
  labels = length s.store;
  bytes = length (encode (map row_of (best_offers f dest s.store)));
  legs = length (legs_from s.store 0 (best_offers f dest s.store));
}

-- a scan that has come to its end is answered unless there are more than 32 best offers
abbrev pub answered : {S : Type 0} → FareModel S → ℕ → Memory S → Stage S → Outcome S
answered f dest m s =
    cond (nat_lt most_rows (length (best_offers f dest s.store)))
    (refused (ManyOffers (length (best_offers f dest s.store))) (used (length s.store) s m))
    (record { answer = Ok (counted f dest s); left = printed f dest s m })

-- the refusal of a scan that a full list has ended, where so many labels are written
abbrev pub refusal_of_scan : Full → ℕ → Refusal
refusal_of_scan Store labels = StoreFull labels
refusal_of_scan (Aboard hop) labels = AboardFull hop

-- a scan that a full list has ended is refused, and counts no label as written
abbrev pub scanned : {S : Type 0} → FareModel S → ℕ → Memory S → Run (Stage S) → Outcome S
scanned f dest m (on s) = answered f dest m s
scanned f dest m (ended full s) = refused (refusal_of_scan full (length s.store)) (used 0 s m)

-- a fault is refused, and leaves all lists as they were
abbrev pub unless : {S : Type 0} → Option Refusal → Memory S → Outcome S → Outcome S
unless (Some refusal) m o = refused refusal m
unless None m o = o

-- a question put to a board
abbrev pub asked : {S : Type 0} → FareModel S → List Hop → List Stop → List Footpath → Question → Memory S → Outcome S
asked f hops stops paths q m =
    unless (fault_of q stops paths hops (length m.sheet) (length m.legs)) m
    (scanned f q.destination m (scan_for f hops paths q m.labels m.aboard))

-- a question put to a board with a tariff, a measure and a timetable
abbrev pub asked_of : {K W : Type 0} → TariffModel K → MeasureModel W → List Hop → List Stop → List Footpath → Question → Memory (FareState K W) → Outcome (FareState K W)
asked_of tariff measure hops stops paths q m = asked (fare_over tariff measure stops) hops stops paths q m

-- A call answers a, and leaves these labels, of which so many count as written, passengers, bytes and legs: that is the
-- outcome o.
pub record Leaves {S : Type 0} (o : Outcome S) (a : Result Answer Refusal) (ls : List (StoredLabel S)) (n : ℕ) (ps : List (Passenger S)) (bytes : List ℕ) (walked : List Leg) : Type 0 where
  pub answer : a ≡ o.answer
  pub labels : ls ≡ o.left.labels
  pub written : n ≡ o.left.written
  pub aboard : ps ≡ o.left.aboard
  pub sheet : bytes ≡ o.left.sheet
  pub legs : walked ≡ o.left.legs
