-- What the sheet and the legs of an answered question are, in terms of journeys alone.
-- Assumes nothing.
use Rattle.std.specs.Prelude.{◌≡◌, ℕ, suc, ◌≤◌, List, [], ◌∷◌, ◌++◌, map, length, take, Ok, Err, Result}
use Rattle.timetable.specs.declared.hops.Hop.{Hop}
use Rattle.journeys.specs.declared.leg.Leg.{Leg as SheetLeg}
use Rattle.journeys.specs.declared.network.Footpath.{Footpath}
use Rattle.journeys.specs.declared.question.Question.{Question}
use Rattle.journeys.specs.Fare.{FareModel}
use Rattle.journeys.specs.Journey.{Setup, Leg, last}
use Rattle.journeys.specs.Lists.{Each, Somewhere}
use Rattle.journeys.specs.Offers.{Offer, offer_of, AtMost, Such, Best}
use Rattle.journeys.specs.Traces.{spelled}
use Rattle.sheet.specs.declared.rows.Row.{Row}
use Rattle.sheet.specs.Format.{encode}
use Rattle.sheet.specs.Rows.{Good, Ordered}
use Rattle.planner.specs.Comparing.{In, offer_of_row}
use Rattle.planner.specs.declared.answer.Answer.{Answer}
use Rattle.planner.specs.declared.refusal.Refusal.{Refusal}

-- the journeys that a question is about
abbrev pub setup_of : {S : Type 0} → FareModel S → List Hop → List Footpath → Question → Setup S
setup_of f hops paths q = record { fare = f; hops = hops; paths = paths; origin = q.origin; departure = q.departure }

-- a row of a sheet, and the legs that are handed out with it
pub record Connection : Type 0 where
  pub row : Row
  pub legs : List Leg

-- what a connection offers
abbrev pub offers : Connection → Offer
offers c = record { arrival = c.row.arrival; price = c.row.price }

-- the legs of the connections, row by row; the first row has the number n
abbrev pub spelled_out : ℕ → List Connection → List SheetLeg
spelled_out n [] = []
spelled_out n (c ∷ cs) = map (spelled n) c.legs ++ spelled_out (suc n) cs

-- the legs are a journey to the destination within the ride limit, and the row is its offer
pub record HandedOut {S : Type 0} (w : Setup S) (dest limit : ℕ) (c : Connection) : Type 0 where
  pub such : Such w dest limit c.legs
  pub offered : offer_of w (last w c.legs) ≡ offers c

-- The sheet and the legs show every connection worth choosing, and nothing else.
pub record Shows {S : Type 0} (w : Setup S) (dest limit : ℕ) (answer : Answer) (bytes : List ℕ) (walked : List SheetLeg) : Type 0 where
  pub connections : List Connection
  pub rows : length connections ≡ answer.rows
  pub bytes_fit : answer.bytes ≤ length bytes
  pub legs_fit : answer.legs ≤ length walked
  pub sheet : take answer.bytes bytes ≡ encode (map (λ c. c.row) connections)
  pub legs : take answer.legs walked ≡ spelled_out 0 connections
  -- at most 32 rows in range, by rising arrival and falling price
  pub good : Good (map (λ c. c.row) connections)
  -- each row is the offer of the journey that its legs spell out
  pub handed : Each (HandedOut w dest limit) connections
  -- each row is a best offer: no such journey's offer beats it
  pub best : Each (λ c. Best w dest limit (offers c)) connections
  -- each best offer is a row
  pub all : (o : Offer) → Best w dest limit o → Somewhere (λ c. offers c ≡ o) connections
  -- each such journey is met by a row that arrives no later and costs no more
  pub met : (ls : List Leg) → Such w dest limit ls → Somewhere (λ c. AtMost (offers c) (offer_of w (last w ls))) connections

-- there are n best offers: rows by rising arrival and falling price, which are these offers and no others
pub record BestOffersAre {S : Type 0} (w : Setup S) (dest limit n : ℕ) : Type 0 where
  pub rows : List Row
  pub count : length rows ≡ n
  pub order : Ordered rows
  pub sound : (r : Row) → In r rows → Best w dest limit (offer_of_row r)
  pub whole : (r : Row) → Best w dest limit (offer_of_row r) → In r rows

-- what an answered question promises of its sheet and legs
abbrev pub Promised : {S : Type 0} → Setup S → ℕ → ℕ → Result Answer Refusal → List ℕ → List SheetLeg → Type 0
Promised w dest limit (Ok answer) bytes walked = Shows w dest limit answer bytes walked
Promised w dest limit (Err refusal) bytes walked = Unit {0}
