-- When a question is accepted, in plain facts.
-- Assumes nothing.
use Rattle.std.specs.Prelude.{◌≡◌, ℕ, ◌<◌, ◌≤◌, true, List, length}
use Rattle.timetable.specs.declared.hops.Hop.{Hop}
use Rattle.timetable.specs.Rule.{day_end}
use Rattle.timetable.specs.Table.{most_hops}
use Rattle.journeys.specs.declared.network.Footpath.{Footpath}
use Rattle.journeys.specs.declared.network.Stop.{Stop}
use Rattle.journeys.specs.declared.question.Question.{Question}
use Rattle.journeys.specs.Endless.{scan∞, most_aboard∞}
use Rattle.journeys.specs.Fare.{FareModel}
use Rattle.journeys.specs.Lists.{Each}
use Rattle.sheet.specs.Format.{sheet_bytes}
use Rattle.sheet.specs.Rows.{most_rows}
use Rattle.planner.specs.Limits.{most_stops, most_paths, top_zone, top_class, longest_walk, most_rides, most_legs}
use Rattle.planner.specs.Outcome.{Space}
use Rattle.planner.specs.Promise.{setup_of, BestOffersAre}

-- a stop within limits
pub record StopOk (s : Stop) : Type 0 where
  pub zone : s.zone ≤ top_zone
  pub class : s.class ≤ top_class

-- a footpath from one of so many stops to another
pub record PathOk (stops : ℕ) (p : Footpath) : Type 0 where
  pub from : p.from < stops
  pub to : p.to < stops
  pub apart : p.from ≡ p.to → ⊥
  pub long : 1 ≤ p.seconds
  pub short : p.seconds ≤ longest_walk

-- a hop that runs only between stops
pub record HopOk (stops : ℕ) (h : Hop) : Type 0 where
  pub from : h.runs ≡ true → h.from < stops
  pub to : h.runs ≡ true → h.to < stops

-- a question that can be asked where there are so many stops and hops
pub record QuestionFits (q : Question) (stops hops : ℕ) : Type 0 where
  pub origin : q.origin < stops
  pub destination : q.destination < stops
  pub departure : q.departure ≤ day_end
  pub some_rides : 1 ≤ q.rides
  pub few_rides : q.rides ≤ most_rides
  pub few_hops : hops < most_hops

-- a list that is not too long, of such things alone
pub record ListFits {A : Type 0} (P : A → Type 0) (most : ℕ) (xs : List A) : Type 0 where
  pub few : length xs ≤ most
  pub all : Each P xs

-- stops, footpaths and running hops within limits
pub record NetworkFits (stops : List Stop) (paths : List Footpath) (hops : List Hop) : Type 0 where
  pub stops_fit : ListFits StopOk most_stops stops
  pub paths_fit : ListFits (PathOk (length stops)) most_paths paths
  pub hops_fit : Each (HopOk (length stops)) hops

-- no cause stands for which a question is refused before it is scanned
pub record Askable (q : Question) (stops : List Stop) (paths : List Footpath) (hops : List Hop) (space : Space) : Type 0 where
  pub question : QuestionFits q (length stops) (length hops)
  pub network : NetworkFits stops paths hops
  pub sheet_room : sheet_bytes ≤ space.sheet
  pub legs_room : most_legs ≤ space.legs

-- the labels and those aboard of a scan without end fit their lists
pub record ScanFits {S : Type 0} (f : FareModel S) (hops : List Hop) (paths : List Footpath) (q : Question) (space : Space) : Type 0 where
  pub labels_fit : length (scan∞ (setup_of f hops paths q) q.rides) ≤ space.labels
  pub aboard_fit : most_aboard∞ (setup_of f hops paths q) q.rides ≤ space.aboard

-- A question is accepted: no cause stands, the labels and those aboard of a scan without end fit their lists, and there
-- are at most 32 best offers.
pub record Acceptable {S : Type 0} (f : FareModel S) (hops : List Hop) (stops : List Stop) (paths : List Footpath) (q : Question) (space : Space) : Type 0 where
  pub askable : Askable q stops paths hops space
  pub scan_fits : ScanFits f hops paths q space
  pub few_offers : (n : ℕ) × (n ≤ most_rows) × BestOffersAre (setup_of f hops paths q) q.destination q.rides n
