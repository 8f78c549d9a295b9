-- The scan over lists that are never full.
-- Assumes nothing.
use Rattle.std.specs.Prelude.{ℕ, zero, suc, max, cond, List, [], ◌∷◌, ◌++◌, map, length, ◌==◌}
use Rattle.timetable.specs.declared.hops.Hop.{Hop}
use Rattle.journeys.specs.declared.network.Footpath.{Footpath}
use Rattle.journeys.specs.declared.label.Label.{Label}
use Rattle.journeys.specs.declared.label.Passenger.{Passenger}
use Rattle.journeys.specs.Journey.{Setup, hop_in}
use Rattle.journeys.specs.Labels.{covers, label_at_origin, label_by_walk, label_by_ride, passenger, rides_on, fresh, boards}
use Rattle.journeys.specs.Lists.{foldi, any}

-- a round under way
pub record Pass (S : Type 0) : Type 0 where
  pub trip : ℕ
  pub aboard : List (Passenger S)
  pub store : List (Label S)

module _ {S : Type 0} (w : Setup S) where
  -- a candidate is written next unless an earlier label covers it
  abbrev pub offer∞ : Label S → List (Label S) → List (Label S)
  offer∞ c ls = cond (any (λ l. covers w.fare l c) ls) ls (ls ++ (c ∷ []))

  -- the footpath p at place i, from the label l at place j
  abbrev pub walk∞ : ℕ → Label S → ℕ → Footpath → List (Label S) → List (Label S)
  walk∞ j l i p ls = cond (p.from == l.stop) (offer∞ (label_by_walk j l i p) ls) ls

  -- all footpaths in list order, from a label that was reached in round k by a ride
  abbrev pub walk_on∞ : ℕ → ℕ → Label S → List (Label S) → List (Label S)
  walk_on∞ k j l ls = cond (fresh k l) (foldi (walk∞ j l) 0 w.paths ls) ls

  -- the walks of round k, from its labels in store order
  unfoldable pub walks∞ : ℕ → List (Label S) → List (Label S)
  walks∞ k ls = foldi (walk_on∞ k) 0 ls ls

  -- a passenger is written next unless the state of one aboard covers its state
  abbrev pub seat∞ : Passenger S → List (Passenger S) → List (Passenger S)
  seat∞ p ps = cond (any (λ q. w.fare.covers q.state p.state) ps) ps (ps ++ (p ∷ []))

  -- the label l at place j boards the hop h at place i, if it may
  abbrev pub board∞ : ℕ → ℕ → Hop → ℕ → Label S → List (Passenger S) → List (Passenger S)
  board∞ k i h j l ps = cond (boards k h l) (seat∞ (passenger w.fare i j l) ps) ps

  -- one aboard is offered at the stop to which the hop h leads
  abbrev pub alight∞ : ℕ → ℕ → Hop → ℕ → Passenger S → List (Label S) → List (Label S)
  alight∞ k i h n p ls = offer∞ (label_by_ride k i h p) ls

  -- who is aboard before the hop h
  abbrev pub kept∞ : Hop → Pass S → List (Passenger S)
  kept∞ h s = cond (s.trip == h.trip) s.aboard []

  -- who is aboard after the hop h, which runs
  unfoldable pub carried∞ : ℕ → ℕ → Hop → Pass S → List (Passenger S)
  carried∞ k i h s = map (rides_on w.fare h) (foldi (board∞ k i h) 0 s.store (kept∞ h s))

  -- the hop h at place i in round k
  unfoldable pub hop∞ : ℕ → ℕ → Hop → Pass S → Pass S
  hop∞ k i h s = cond h.runs
      (record { trip = h.trip; aboard = carried∞ k i h s; store = foldi (alight∞ k i h) 0 (carried∞ k i h s) s.store })
      (record { trip = h.trip; aboard = []; store = s.store })

  -- round k after i hops
  abbrev pub pass∞ : ℕ → List (Label S) → ℕ → Pass S
  pass∞ k ls zero = record { trip = 0; aboard = []; store = ls }
  pass∞ k ls (suc i) = hop∞ k i (hop_in w i) (pass∞ k ls i)

  -- the origin's label
  abbrev pub first∞ : Label S
  first∞ = label_at_origin w.fare w.origin w.departure

  -- the store after round k
  abbrev pub scan∞ : ℕ → List (Label S)
  scan∞ zero = walks∞ 0 (first∞ ∷ [])
  scan∞ (suc k) = walks∞ (suc k) (pass∞ (suc k) (scan∞ k) (length w.hops)).store

  -- how many are aboard once all have boarded the hop h; nobody boards a hop that does not run
  abbrev pub crowd∞ : ℕ → ℕ → Hop → Pass S → ℕ
  crowd∞ k i h s = cond h.runs (length (foldi (board∞ k i h) 0 s.store (kept∞ h s))) 0

  -- the most that are ever aboard in the first i hops of round k
  abbrev pub pass_crowd∞ : ℕ → List (Label S) → ℕ → ℕ
  pass_crowd∞ k ls zero = 0
  pass_crowd∞ k ls (suc i) = max (pass_crowd∞ k ls i) (crowd∞ k i (hop_in w i) (pass∞ k ls i))

  -- the most that are ever aboard up to round k
  abbrev pub most_aboard∞ : ℕ → ℕ
  most_aboard∞ zero = 0
  most_aboard∞ (suc k) = max (most_aboard∞ k) (pass_crowd∞ (suc k) (scan∞ k) (length w.hops))
