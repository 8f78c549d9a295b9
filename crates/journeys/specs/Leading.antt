-- Where labels stand, and that the legs traced to each label of a store are a journey that leads there.
-- Assumes nothing.
use Rattle.std.specs.Prelude.{◌≡◌, ℕ, ◌≤◌, List}
use Rattle.journeys.specs.declared.label.Label.{Label}
use Rattle.journeys.specs.Journey.{Setup, Place, Leg, Journey, last}
use Rattle.journeys.specs.Labels.{came_on_foot}
use Rattle.journeys.specs.Lists.{Eachi}
use Rattle.journeys.specs.Traces.{legs_of}

-- the place in a journey that a label stands for: its stop, time, rides and fare state, and whether it was come to on foot
abbrev pub place : {S : Type 0} → Label S → Place S
place l = record { stop = l.stop; time = l.time; rides = l.rides; foot = came_on_foot l.way; state = l.state }

-- the legs are a journey to where the label stands
pub record LegsLead {S : Type 0} (w : Setup S) (ls : List Leg) (l : Label S) : Type 0 where
  pub journey : Journey w ls
  pub ends : last w ls ≡ place l

-- the legs traced to each label of a store lead there, in at most so many rides
abbrev pub LabelsAreReached : {S : Type 0} → Setup S → ℕ → List (Label S) → Type 0
LabelsAreReached w limit st = Eachi (λ j l. LegsLead w (legs_of st j) l × (l.rides ≤ limit)) 0 st
