-- Labels: when one covers another, the candidates for labels, and who may board.
-- Assumes nothing.
use Rattle.std.specs.Prelude.{ℕ, suc, ◌+◌, min, Bool, true, false, not, ◌&&◌, ◌||◌, ◌==◌, nat_le}
use Rattle.timetable.specs.declared.hops.Hop.{Hop}
use Rattle.journeys.specs.declared.network.Footpath.{Footpath}
use Rattle.journeys.specs.declared.label.Way.{Way}
use Rattle.journeys.specs.declared.label.Way.TheVariants.{Origin, Walked, Rode}
use Rattle.journeys.specs.declared.label.Label.{Label}
use Rattle.journeys.specs.declared.label.Passenger.{Passenger}
use Rattle.journeys.specs.Fare.{FareModel, boarded}

-- came by a footpath
abbrev pub came_on_foot : Way → Bool
came_on_foot Origin = false
came_on_foot (Walked path from) = true
came_on_foot (Rode first last from) = false

-- a label covers another at its stop: no later, no more rides, its state covering;
-- one on foot covers only such, and one of no rides only such
abbrev pub covers : {S : Type 0} → FareModel S → Label S → Label S → Bool
covers f l c =
    (l.stop == c.stop)
    && (nat_le l.time c.time
    && (nat_le l.rides c.rides
    && (f.covers l.state c.state
    && ((not (came_on_foot l.way) || came_on_foot c.way) && (not (l.rides == 0) || c.rides == 0)))))

-- so much later, held at the largest time that a label can have
abbrev pub later : ℕ → ℕ → ℕ
later time seconds = min (time + seconds) 4294967295

-- the origin, at the departure asked
abbrev pub label_at_origin : {S : Type 0} → FareModel S → ℕ → ℕ → Label S
label_at_origin f stop departure = record { stop = stop; time = departure; rides = 0; state = f.start stop; way = Origin }

-- a candidate by the footpath p at place i, from the label l at place j
abbrev pub label_by_walk : {S : Type 0} → ℕ → Label S → ℕ → Footpath → Label S
label_by_walk j l i p =
    record { stop = p.to; time = later l.time p.seconds; rides = l.rides; state = l.state; way = Walked i j }

-- a candidate in round k by the hop h at place i, of one aboard
abbrev pub label_by_ride : {S : Type 0} → ℕ → ℕ → Hop → Passenger S → Label S
label_by_ride k i h e =
    record { stop = h.to; time = h.arrival; rides = k; state = e.state; way = Rode e.first i e.label }

-- the label l at place j, once it has boarded the hop at place i
abbrev pub passenger : {S : Type 0} → FareModel S → ℕ → ℕ → Label S → Passenger S
passenger f i j l = record { state = boarded f l.rides l.state; label = j; first = i }

-- one aboard, after the hop h
abbrev pub rides_on : {S : Type 0} → FareModel S → Hop → Passenger S → Passenger S
rides_on f h e = record { state = f.hop h e.state; label = e.label; first = e.first }

-- reached in round k, and not on foot
abbrev pub fresh : {S : Type 0} → ℕ → Label S → Bool
fresh k l = l.rides == k && not (came_on_foot l.way)

-- may board the hop h in round k: reached in the round before, at its from stop, no later than it departs
abbrev pub boards : {S : Type 0} → ℕ → Hop → Label S → Bool
boards k h l = suc l.rides == k && (l.stop == h.from && nat_le l.time h.departure)
