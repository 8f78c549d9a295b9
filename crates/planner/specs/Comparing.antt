-- Two boards compared: whether their sheets are the same bytes, and what that means.
-- Assumes nothing.
use Rattle.std.specs.Prelude.{◌≡◌, ℕ, ◌≤◌, Bool, List, length, take, Ok, Err, Decides, Result}
use Rattle.std.specs.Str.{bytes_eq}
use Rattle.journeys.specs.Journey.{Setup}
use Rattle.journeys.specs.Lists.{Somewhere}
use Rattle.journeys.specs.Offers.{Offer, Best}
use Rattle.sheet.specs.declared.rows.Row.{Row}
use Rattle.sheet.specs.Format.{encode}
use Rattle.sheet.specs.Rows.{Good}
use Rattle.planner.specs.declared.answer.Answer.{Answer}
use Rattle.planner.specs.declared.refused.Refused.{Refused}
use Rattle.planner.specs.declared.refused.Refused.TheVariants.{First, Second}
use Rattle.planner.specs.declared.refusal.Refusal.{Refusal}
use Rattle.planner.specs.Outcome.{Memory, Outcome}

-- the same sheet, of two answered questions
abbrev pub compared : Result Answer Refusal → List ℕ → Result Answer Refusal → List ℕ → Result Bool Refused
compared (Err refusal) sheet second other = Err (First refusal)
compared (Ok answer) sheet (Err refusal) other = Err (Second refusal)
compared (Ok answer) sheet (Ok second) other = Ok (bytes_eq (take answer.bytes sheet) (take second.bytes other))

-- the second board is asked only where the first has answered
abbrev pub left_of_second : {S : Type 0} → Result Answer Refusal → Memory S → Outcome S → Memory S
left_of_second (Err refusal) m o = m
left_of_second (Ok answer) m o = o.left

-- the second board's promise, where it was asked
abbrev pub WhereAsked : Result Answer Refusal → Type 0 → Type 0
WhereAsked (Err refusal) P = Unit {0}
WhereAsked (Ok answer) P = P

-- two sets of offers are the same
abbrev pub Same : (Offer → Type 0) → (Offer → Type 0) → Type 0
Same P Q = (o : Offer) → (P o → Q o) × (Q o → P o)

-- two questions have the same best offers
abbrev pub SameBest : {S R : Type 0} → Setup S → ℕ → ℕ → Setup R → ℕ → ℕ → Type 0
SameBest w dest limit v to most = Same (Best w dest limit) (Best v to most)

-- the offer of a row
abbrev pub offer_of_row : Row → Offer
offer_of_row r = record { arrival = r.arrival; price = r.price }

-- r is one of the rows
abbrev pub In : Row → List Row → Type 0
In r rows = Somewhere (λ x. x ≡ r) rows

-- n bytes in front are the sheet of the offers of a set, and of nothing else
pub record SheetOfSet (P : Offer → Type 0) (n : ℕ) (bytes : List ℕ) : Type 0 where
  pub rows : List Row
  pub bytes_fit : n ≤ length bytes
  pub sheet : take n bytes ≡ encode rows
  pub good : Good rows
  -- each row is an offer of the set, and each offer of the set is a row
  pub sound : (r : Row) → In r rows → P (offer_of_row r)
  pub whole : (r : Row) → P (offer_of_row r) → In r rows

-- an answered sheet is that of the offers of a set
abbrev pub ShowsBest : (Offer → Type 0) → Result Answer Refusal → List ℕ → Type 0
ShowsBest P (Ok answer) bytes = SheetOfSet P answer.bytes bytes
ShowsBest P (Err refusal) bytes = Unit {0}

-- an answer says whether two questions have the same best offers
abbrev pub Tells : Result Bool Refused → Type 0 → Type 0
Tells (Ok same) P = Decides same P
Tells (Err refused) P = Unit {0}
