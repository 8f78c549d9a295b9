-- What the rows of an answer are to a question, and the legs that are handed out with them.
-- Assumes nothing.
use Rattle.std.specs.Prelude.{◌≡◌, ℕ, ◌<◌, List, [], ◌∷◌}
use Rattle.journeys.specs.declared.best_offer.BestOffer.{BestOffer}
use Rattle.journeys.specs.Journey.{Setup, Leg, last}
use Rattle.journeys.specs.Lists.{Each, Somewhere}
use Rattle.journeys.specs.Offers.{Offer, offer_of, AtMost, Such, Best}
use Rattle.journeys.specs.Selection.{offered}

-- each row is later and cheaper than the one before
abbrev pub Ordered : List BestOffer → Type 0
Ordered [] = Unit {0}
Ordered (r ∷ []) = Unit {0}
Ordered (r ∷ (q ∷ rs)) = (r.arrival < q.arrival) × (q.price < r.price) × Ordered (q ∷ rs)

-- the legs are a journey to the destination within the ride limit, and the row is its offer
abbrev pub Handed : {S : Type 0} → Setup S → ℕ → ℕ → BestOffer → List Leg → Type 0
Handed w dest limit r ls = Such w dest limit ls × (offer_of w (last w ls) ≡ offered r)

-- The rows rs answer a question: `legs` gives each row's legs.
pub record Answers {S : Type 0} (w : Setup S) (dest limit : ℕ) (rs : List BestOffer) (legs : BestOffer → List Leg) : Type 0 where
  pub ordered : Ordered rs
  -- each row is the offer of the journey that its legs spell out
  pub handed : Each (λ r. Handed w dest limit r (legs r)) rs
  -- each row is a best offer
  pub best : Each (λ r. Best w dest limit (offered r)) rs
  -- each best offer is a row
  pub all : (o : Offer) → Best w dest limit o → Somewhere (λ r. offered r ≡ o) rs
  -- each journey is met by a row that arrives no later and costs no more
  pub met : (ls : List Leg) → Such w dest limit ls → Somewhere (λ r. AtMost (offered r) (offer_of w (last w ls))) rs
