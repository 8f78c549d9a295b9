-- What is promised of a sheet is that it holds the best offers, and nothing else. (The proof stands here, and not in proofs/, since an impl cites it.)
-- Assumes nothing.
use Rattle.std.specs.Prelude.{◌≡◌, ℕ, List, [], ◌∷◌, map, Ok, Err, Result}
use Rattle.std.proofs.Common.{ap, subst, ap₂, inl, inr}
use Rattle.journeys.specs.declared.leg.Leg.{Leg as SheetLeg}
use Rattle.journeys.specs.Journey.{Setup}
use Rattle.journeys.specs.Lists.{Somewhere}
use Rattle.journeys.specs.Offers.{Offer, Best}
use Rattle.journeys.proofs.Lists.{some_map, some_out, some_each}
use Rattle.sheet.specs.declared.rows.Row.{Row}
use Rattle.planner.specs.declared.answer.Answer.{Answer}
use Rattle.planner.specs.declared.refusal.Refusal.{Refusal}
use Rattle.planner.specs.Comparing.{In, offer_of_row, SheetOfSet, ShowsBest}
use Rattle.planner.specs.Promise.{Connection, offers, Shows, Promised}

row_from_offer : (a b : Row) → offer_of_row a ≡ offer_of_row b → a ≡ b
row_from_offer a b e = ap₂ {C = Row} (λ t p. record { arrival = t; price = p }) (ap (λ (o : Offer). o.arrival) e) (ap (λ (o : Offer). o.price) e)

some_of_map : (cs : List Connection) (r : Row) → In r (map (λ c. c.row) cs) → Somewhere (λ c. c.row ≡ r) cs
some_of_map [] r i = absurd i
some_of_map (c ∷ cs) r (inl e) = inl e
some_of_map (c ∷ cs) r (inr i) = inr (some_of_map cs r i)

module _ {S : Type 0} (w : Setup S) (dest limit : ℕ) (answer : Answer) (bytes : List ℕ) (walked : List SheetLeg) (s : Shows w dest limit answer bytes walked) where
  abbrev pub rows_shown : List Row
  rows_shown = map (λ c. c.row) s.connections

  -- a row is a best offer, and each best offer is a row
  pub row_is_best : (r : Row) → In r rows_shown → Best w dest limit (offer_of_row r)
  row_is_best r i =
      let x = some_out (λ c. Best w dest limit (offers c) × (c.row ≡ r)) s.connections (some_each (λ c. Best w dest limit (offers c)) (λ c. c.row ≡ r) s.connections s.best (some_of_map s.connections r i)) in
      subst (λ (z : Row). Best w dest limit (offer_of_row z)) x.1.1 x.1.0

  pub best_is_row : (r : Row) → Best w dest limit (offer_of_row r) → In r rows_shown
  best_is_row r b = some_map (λ c. offers c ≡ offer_of_row r) (λ x. x ≡ r) (λ c. c.row) (λ c e. row_from_offer c.row r e) s.connections (s.all (offer_of_row r) b)

  pub shows_best : SheetOfSet (Best w dest limit) answer.bytes bytes
  shows_best = record { rows = rows_shown; bytes_fit = s.bytes_fit; sheet = s.sheet; good = s.good; sound = row_is_best; whole = best_is_row }

pub promised_shows : {S : Type 0} (w : Setup S) (dest limit : ℕ) (r : Result Answer Refusal) (bytes : List ℕ) (walked : List SheetLeg) → Promised w dest limit r bytes walked → ShowsBest (Best w dest limit) r bytes
promised_shows w dest limit (Ok answer) bytes walked p = shows_best w dest limit answer bytes walked p
promised_shows w dest limit (Err refusal) bytes walked p = tt
