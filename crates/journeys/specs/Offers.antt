-- Offers, and which of them are best.
-- Assumes nothing.
use Rattle.std.specs.Prelude.{◌≡◌, ℕ, zero, suc, ◌≤◌, List, ◌≢◌}
use Rattle.journeys.specs.Fare.{FareModel}
use Rattle.journeys.specs.Journey.{Setup, Place, Leg, Journey, last}

pub record Offer : Type 0 where
  pub arrival : ℕ
  pub price : ℕ

-- the price of the last ticket, or 0 without a ride
abbrev pub fee : {S : Type 0} → FareModel S → ℕ → S → ℕ
fee f zero s = 0
fee f (suc rides) s = f.price s

-- what a rider is offered who has come to a place
abbrev pub offer_of : {S : Type 0} → Setup S → Place S → Offer
offer_of w p = record { arrival = p.time; price = fee w.fare p.rides p.state }

-- o is no later and no dearer than q
pub record AtMost (o q : Offer) : Type 0 where
  pub arrival : o.arrival ≤ q.arrival
  pub price : o.price ≤ q.price

-- o is no later and no dearer than q, and another offer
abbrev pub Beats : Offer → Offer → Type 0
Beats o q = AtMost o q × (o ≢ q)

-- a journey to the destination within the ride limit
pub record Such {S : Type 0} (w : Setup S) (dest limit : ℕ) (ls : List Leg) : Type 0 where
  pub journey : Journey w ls
  pub there : (last w ls).stop ≡ dest
  pub within : (last w ls).rides ≤ limit

-- o is the offer of such a journey, and no such journey's offer beats it
pub record Best {S : Type 0} (w : Setup S) (dest limit : ℕ) (o : Offer) : Type 0 where
  pub legs : List Leg
  pub such : Such w dest limit legs
  pub is : offer_of w (last w legs) ≡ o
  pub unbeaten : (ls : List Leg) → Such w dest limit ls → Beats (offer_of w (last w ls)) o → ⊥
