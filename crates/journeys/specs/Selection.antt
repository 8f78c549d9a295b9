-- The best offers of a store's labels, each with its first label.
-- Assumes nothing.
use Rattle.std.specs.Prelude.{ℕ, zero, suc, Bool, cond, ◌&&◌, ◌||◌, List, [], ◌∷◌, Some, None, Option, ◌==◌, nat_lt}
use Rattle.journeys.specs.declared.best_offer.BestOffer.{BestOffer}
use Rattle.journeys.specs.declared.label.Label.{Label}
use Rattle.journeys.specs.Fare.{FareModel}
use Rattle.journeys.specs.Lists.{foldi}
use Rattle.journeys.specs.Offers.{Offer, fee}

-- what the label l at place j offers
abbrev pub offer_at : {S : Type 0} → FareModel S → ℕ → Label S → BestOffer
offer_at f j l = record { arrival = l.time; price = fee f l.rides l.state; label = j }

-- by arrival, then price
abbrev pub before : BestOffer → BestOffer → Bool
before q r = nat_lt q.arrival r.arrival || (q.arrival == r.arrival && nat_lt q.price r.price)

-- the first of two, where the one found earlier stays unless the other is before it
abbrev pub first_of : BestOffer → Option BestOffer → Option BestOffer
first_of r None = Some r
first_of r (Some q) = cond (before r q) (Some r) (Some q)

-- one label more, if it stands at the destination and costs less than the bound
abbrev pub picking_one : {S : Type 0} → FareModel S → ℕ → ℕ → ℕ → Label S → Option BestOffer → Option BestOffer
picking_one f dest bound j l o = cond (l.stop == dest && nat_lt (fee f l.rides l.state) bound) (first_of (offer_at f j l) o) o

-- the first offer, by arrival and then price, of those that cost less than the bound
unfoldable pub pick : {S : Type 0} → FareModel S → ℕ → ℕ → List (Label S) → Option BestOffer
pick f dest bound ls = foldi (picking_one f dest bound) 0 ls None

-- an offer, and then those that cost less
abbrev pub and_cheaper : Option BestOffer → (ℕ → List BestOffer) → List BestOffer
and_cheaper None more = []
and_cheaper (Some r) more = r ∷ more r.price

-- each is the first of those that cost less than the one before; at most so many
unfoldable pub picks : {S : Type 0} → FareModel S → ℕ → List (Label S) → ℕ → ℕ → List BestOffer
picks f dest ls zero bound = []
picks f dest ls (suc n) bound = and_cheaper (pick f dest bound ls) (picks f dest ls n)

-- one more than the highest price
abbrev pub price_bound : ℕ
price_bound = 10000000

-- The best offers at the destination. Prices fall from one to the next, so that none is left out by the number of them.
unfoldable pub best_offers : {S : Type 0} → FareModel S → ℕ → List (Label S) → List BestOffer
best_offers f dest ls = picks f dest ls price_bound price_bound

-- what is offered
abbrev pub offered : BestOffer → Offer
offered r = record { arrival = r.arrival; price = r.price }
