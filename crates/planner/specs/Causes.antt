-- Why a question is refused, by number and values, in plain facts about the question, the network and the lists.
-- Assumes nothing. Each cause says that those before it on the refusal board do not stand.
use Rattle.std.specs.Prelude.{◌≡◌, ℕ, suc, ◌<◌, ◌≤◌, ◌⊎◌, List, [], ◌∷◌, ◌++◌, length, Ok, Err, Result}
use Rattle.timetable.specs.declared.hops.Hop.{Hop}
use Rattle.timetable.specs.Rule.{day_end}
use Rattle.timetable.specs.Table.{most_hops}
use Rattle.journeys.specs.declared.network.Footpath.{Footpath}
use Rattle.journeys.specs.declared.network.Stop.{Stop}
use Rattle.journeys.specs.declared.question.Question.{Question}
use Rattle.journeys.specs.Endless.{scan∞, pass∞, crowd∞, pass_crowd∞, most_aboard∞}
use Rattle.journeys.specs.Fare.{FareModel}
use Rattle.journeys.specs.Journey.{Setup, hop_in}
use Rattle.journeys.specs.Lists.{Each}
use Rattle.sheet.specs.Format.{sheet_bytes}
use Rattle.sheet.specs.Promise.{Only, Never}
use Rattle.sheet.specs.Refusals.{Cause}
use Rattle.sheet.specs.Rows.{most_rows}
use Rattle.planner.specs.declared.answer.Answer.{Answer}
use Rattle.planner.specs.declared.refusal.Refusal.{Refusal}
use Rattle.planner.specs.Acceptance.{StopOk, PathOk, HopOk, QuestionFits, ListFits, NetworkFits, Askable, ScanFits}
use Rattle.planner.specs.Limits.{most_stops, most_paths, most_rides, most_legs}
use Rattle.planner.specs.Outcome.{Space}
use Rattle.planner.specs.Promise.{setup_of, BestOffersAre}
use Rattle.planner.specs.Refusals.{cause}

-- the number of the first field that cannot be asked, where there are so many stops and hops
pub data FieldFails (q : Question) (stops hops : ℕ) : ℕ → Type 0 where
  no_origin : stops ≤ q.origin → FieldFails q stops hops 0
  no_destination : q.origin < stops → stops ≤ q.destination → FieldFails q stops hops 1
  late_departure : q.origin < stops → q.destination < stops → day_end < q.departure → FieldFails q stops hops 2
  rides_outside : q.origin < stops → q.destination < stops → q.departure ≤ day_end
      → (q.rides < 1) ⊎ (most_rides < q.rides) → FieldFails q stops hops 3
  many_hops : q.origin < stops → q.destination < stops → q.departure ≤ day_end → 1 ≤ q.rides → q.rides ≤ most_rides
      → most_hops ≤ hops → FieldFails q stops hops 4

-- the thing at the place is the first that is not such
pub record FirstFails {A : Type 0} (P : A → Type 0) (xs : List A) (place : ℕ) : Type 0 where
  pub front : List A
  pub thing : A
  pub back : List A
  pub is : xs ≡ front ++ thing ∷ back
  pub at : length front ≡ place
  pub such : Each P front
  pub fails : P thing → ⊥

-- what is told of a list outside limits: its length if it is too long, else the first place that is not such
pub data ListFails {A : Type 0} (P : A → Type 0) (most : ℕ) (xs : List A) : ℕ → Type 0 where
  too_long : most < length xs → ListFails P most xs (length xs)
  not_such : (place : ℕ) → length xs ≤ most → FirstFails P xs place → ListFails P most xs place

-- At the hop at a place, in some round within the ride limit, more would be aboard than have room; and up to there the labels
-- and those aboard had room.
pub record FirstCrowded {S : Type 0} (w : Setup S) (limit : ℕ) (space : Space) (hop : ℕ) : Type 0 where
  pub round : ℕ
  pub within : round < limit
  pub is : hop < length w.hops
  pub crowded : space.aboard < crowd∞ w (suc round) hop (hop_in w hop) (pass∞ w (suc round) (scan∞ w round) hop)
  pub rounds_fit : most_aboard∞ w round ≤ space.aboard
  pub hops_fit : pass_crowd∞ w (suc round) (scan∞ w round) hop ≤ space.aboard
  pub labels_fit : length (pass∞ w (suc round) (scan∞ w round) hop).store ≤ space.labels

module _ {S : Type 0} (f : FareModel S) (hops : List Hop) (stops : List Stop) (paths : List Footpath) (q : Question) (space : Space) where
  -- the journeys that the question is about
  abbrev w : Setup S
  w = setup_of f hops paths q

  -- the question can be asked here
  abbrev Fits : Type 0
  Fits = QuestionFits q (length stops) (length hops)

  -- the stops are within limits, and the footpaths
  abbrev StopsFit : Type 0
  StopsFit = ListFits StopOk most_stops stops

  abbrev PathsFit : Type 0
  PathsFit = ListFits (PathOk (length stops)) most_paths paths

  -- no cause stands before the scan
  abbrev MayBePut : Type 0
  MayBePut = Askable q stops paths hops space

  -- why a question is not answered, by its cause
  pub data NotAnswered : Cause → Type 0 where
    -- a field cannot be asked
    field_fails : (k : ℕ) → FieldFails q (length stops) (length hops) k
        → NotAnswered record { number = 9; values = k ∷ [] }
    -- a list is outside limits: the stops, else the footpaths, else the stops of running hops
    stops_fail : (at : ℕ) → Fits → ListFails StopOk most_stops stops at
        → NotAnswered record { number = 10; values = 0 ∷ at ∷ [] }
    paths_fail : (at : ℕ) → Fits → StopsFit → ListFails (PathOk (length stops)) most_paths paths at
        → NotAnswered record { number = 10; values = 1 ∷ at ∷ [] }
    hops_fail : (at : ℕ) → Fits → StopsFit → PathsFit → FirstFails (HopOk (length stops)) hops at
        → NotAnswered record { number = 10; values = 2 ∷ at ∷ [] }
    -- an output is too short: the sheet, else the legs
    short_sheet : Fits → NetworkFits stops paths hops → space.sheet < sheet_bytes
        → NotAnswered record { number = 11; values = 0 ∷ [] }
    short_legs : Fits → NetworkFits stops paths hops → sheet_bytes ≤ space.sheet → space.legs < most_legs
        → NotAnswered record { number = 11; values = 1 ∷ [] }
    -- the labels do not fit, and no hop found those aboard too many before
    store_full : MayBePut → space.labels < length (scan∞ w q.rides)
        → ((hop : ℕ) → FirstCrowded w q.rides space hop → ⊥) → NotAnswered record { number = 12; values = space.labels ∷ [] }
    -- those aboard are too many at a hop, and the labels fit up to there
    aboard_full : (hop : ℕ) → MayBePut → FirstCrowded w q.rides space hop
        → NotAnswered record { number = 13; values = hop ∷ [] }
    -- there are more than 32 best offers
    many_offers : (n : ℕ) → MayBePut → ScanFits f hops paths q space
        → most_rows < n → BestOffersAre w q.destination q.rides n → NotAnswered record { number = 14; values = n ∷ [] }

  -- an answered question has no cause; a refused one has that of its refusal, and no other
  abbrev pub TellsCause : Result Answer Refusal → Type 0
  TellsCause (Ok answer) = Never NotAnswered
  TellsCause (Err refusal) = Only NotAnswered (cause refusal)
