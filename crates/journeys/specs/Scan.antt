-- The scan, as it writes labels and those aboard into lists with so many places.
-- Assumes nothing.
use Rattle.std.specs.Prelude.{ℕ, zero, suc, false, cond, List, [], map, length, ◌==◌, slice_index_or}
use Rattle.timetable.specs.declared.hops.Hop.{Hop}
use Rattle.timetable.specs.Table.{count_of}
use Rattle.journeys.specs.declared.full.Full.TheVariants.{Store, Aboard}
use Rattle.journeys.specs.declared.network.Footpath.{Footpath}
use Rattle.journeys.specs.declared.label.Label.{Label}
use Rattle.journeys.specs.declared.label.Passenger.{Passenger}
use Rattle.journeys.specs.Fare.{FareModel}
use Rattle.journeys.specs.declared.question.Question.{Question}
use Rattle.journeys.specs.Labels.{covers, label_at_origin, label_by_walk, label_by_ride, passenger, rides_on, fresh, boards}
use Rattle.journeys.specs.Runs.{Run, on, and_then, within, run_each, push, overlay}

-- how many places the two lists have
pub record Room : Type 0 where
  pub labels : ℕ
  pub aboard : ℕ

-- A round under way. Those aboard lie in the first of their places, which keep what was last written.
pub record Stage (S : Type 0) : Type 0 where
  pub trip : ℕ
  pub aboard : List (Passenger S)
  pub places : List (Passenger S)
  pub store : List (Label S)

-- nobody is aboard any more
abbrev pub emptied : {S : Type 0} → ℕ → Stage S → Stage S
emptied trip s = record { trip = trip; aboard = []; places = s.places; store = s.store }

-- a new trip empties the list of those aboard
abbrev pub kept : {S : Type 0} → Hop → Stage S → Stage S
kept h s = cond (s.trip == h.trip) s (emptied h.trip s)

abbrev pub with_aboard : {S : Type 0} → Stage S → List (Passenger S) → Stage S
with_aboard s ps = record { trip = s.trip; aboard = ps; places = overlay ps s.places; store = s.store }

abbrev pub with_store : {S : Type 0} → Stage S → List (Label S) → Stage S
with_store s ls = record { trip = s.trip; aboard = s.aboard; places = s.places; store = ls }

-- a candidate is written next unless an earlier label covers it
abbrev pub offer : {S : Type 0} → FareModel S → ℕ → Label S → List (Label S) → Run (List (Label S))
offer f room c ls = push (λ l. covers f l c) room Store c ls

-- a passenger is written next unless the state of one aboard covers its state
abbrev pub seat : {S : Type 0} → FareModel S → ℕ → ℕ → Passenger S → List (Passenger S) → Run (List (Passenger S))
seat f room i p ps = push (λ q. f.covers q.state p.state) room (Aboard i) p ps

-- the footpath p at place i, from the label l at place j
abbrev pub walk : {S : Type 0} → FareModel S → ℕ → ℕ → Label S → ℕ → Footpath → List (Label S) → Run (List (Label S))
walk f room j l i p ls = cond (p.from == l.stop) (offer f room (label_by_walk j l i p) ls) (on ls)

module _ {S : Type 0} (f : FareModel S) (room : ℕ) where
  -- all footpaths in list order, from a label that was reached in round k by a ride
  abbrev pub walk_on : List Footpath → ℕ → ℕ → Label S → List (Label S) → Run (List (Label S))
  walk_on paths k j l ls = cond (fresh k l) (run_each (walk f room j l) 0 paths ls) (on ls)

  -- the walks of round k, from its labels in store order
  abbrev pub walks : List Footpath → ℕ → List (Label S) → Run (List (Label S))
  walks paths k ls = run_each (walk_on paths k) 0 ls ls

  -- the label l at place j boards the hop h at place i, if it may
  abbrev pub board : ℕ → ℕ → Hop → ℕ → Label S → List (Passenger S) → Run (List (Passenger S))
  board k i h j l ps = cond (boards k h l) (seat f room i (passenger f i j l) ps) (on ps)

  -- one aboard is offered at the stop to which the hop h leads
  abbrev pub alight : ℕ → ℕ → Hop → ℕ → Passenger S → List (Label S) → Run (List (Label S))
  alight k i h n p ls = offer f room (label_by_ride k i h p) ls

module _ {S : Type 0} (f : FareModel S) (room : Room) where
  -- the labels board in store order
  abbrev pub boarding : ℕ → ℕ → Hop → Stage S → Run (Stage S)
  boarding k i h s = within (with_aboard s) (run_each (board f room.aboard k i h) 0 s.store s.aboard)

  -- all aboard are offered in order
  abbrev pub alighting : ℕ → ℕ → Hop → Stage S → Run (Stage S)
  alighting k i h s = within (with_store s) (run_each (alight f room.labels k i h) 0 s.aboard s.store)

  -- a running hop: labels board, all aboard ride on, all aboard are offered
  abbrev pub riding : ℕ → ℕ → Hop → Stage S → Run (Stage S)
  riding k i h s = and_then (boarding k i h (kept h s)) (λ t. alighting k i h (with_aboard t (map (rides_on f h) t.aboard)))

  -- the hop h at place i in round k; one that does not run empties the list of those aboard
  unfoldable pub pass_hop : ℕ → ℕ → Hop → Stage S → Run (Stage S)
  pass_hop k i h s = cond h.runs (riding k i h s) (on (emptied h.trip s))

-- what stands for a hop past the end, which is never passed
abbrev pub no_hop : Hop
no_hop = record { trip = 0; from = 0; to = 0; departure = 0; arrival = 0; metres = 0; level = 0; event = 0; runs = false }

-- round 0 passes no hop, every other round all of them
abbrev pub passed : List Hop → ℕ → ℕ
passed hops zero = 0
passed hops (suc k) = count_of hops

module _ {S : Type 0} (f : FareModel S) (room : Room) (hops : List Hop) where
  -- the first so many hops in order, from a round's start, which empties the list of those aboard
  abbrev pub pass_hops : ℕ → Stage S → ℕ → Run (Stage S)
  pass_hops k s zero = on (emptied 0 s)
  pass_hops k s (suc i) = and_then (pass_hops k s i) (pass_hop f room k i (slice_index_or hops i no_hop))

-- nothing is written yet; `held` is what the places for those aboard held
abbrev pub blank : {S : Type 0} → List (Passenger S) → Stage S
blank held = record { trip = 0; aboard = []; places = held; store = [] }

module _ {S : Type 0} (f : FareModel S) (room : Room) (hops : List Hop) (paths : List Footpath) where
  -- the footpaths of round k
  abbrev pub walking : ℕ → Stage S → Run (Stage S)
  walking k s = within (with_store s) (walks f room.labels paths k s.store)

  -- round k: its hops, and then the footpaths from the labels that it has reached
  abbrev pub round : ℕ → Stage S → Run (Stage S)
  round k s = and_then (pass_hops f room hops k s (passed hops k)) (walking k)

  -- so many rounds, from round 0 on
  abbrev pub rounds : Stage S → ℕ → Run (Stage S)
  rounds s zero = on s
  rounds s (suc k) = and_then (rounds s k) (round k)

  -- the origin is written, and then round 0 and so many rounds more are run
  abbrev pub scan : Label S → List (Passenger S) → ℕ → Run (Stage S)
  scan origin held limit = and_then (within (with_store (blank held)) (offer f room.labels origin [])) (λ s. rounds s (suc limit))

-- the scan for a question, over these places for labels, whatever they hold, and places that hold these passengers
abbrev pub scan_for : {S X : Type 0} → FareModel S → List Hop → List Footpath → Question → List X → List (Passenger S) → Run (Stage S)
scan_for f hops paths q labels held =
    scan f (record { labels = length labels; aboard = length held }) hops paths (label_at_origin f q.origin q.departure) held q.rides
