-- What a question is lent: the memory that it works in, and the lists of the network, by what lies behind the references.
-- Assumes nothing.
use Rattle.std.specs.Prelude.{◌≡◌, List, Result}
use Rattle.journeys.specs.declared.label.Passenger.{Passenger}
use Rattle.journeys.specs.declared.network.Footpath.{Footpath}
use Rattle.journeys.specs.declared.network.Network.{Network}
use Rattle.journeys.specs.declared.network.Stop.{Stop}
use Rattle.scan.specs.declared.label_store.LabelStore.{LabelStore}
use Rattle.planner.specs.declared.lent.Lent.{Lent}
use Rattle.planner.specs.declared.answer.Answer.{Answer}
use Rattle.planner.specs.declared.printout.Printout.{Printout}
use Rattle.planner.specs.declared.refusal.Refusal.{Refusal}
use Rattle.planner.specs.Outcome.{Memory, Outcome, Leaves}

-- the stops of a network, and its footpaths
abbrev pub stops_of : Network → List Stop
stops_of n = n.stops.now

abbrev pub paths_of : Network → List Footpath
paths_of n = n.paths.now

-- what lies in the memory that a question is lent in its parts: the label store, the list of those aboard, the sheet and the legs
abbrev pub lent : {S : Type 0} → LabelStore S → List (Passenger S) → Printout → Memory S
lent store aboard out = record { labels = store.labels.now; written = store.used; aboard = aboard; sheet = out.sheet.now; legs = out.legs.now }

-- what lies in the memory that a question is lent
abbrev pub memory_of : {S : Type 0} → Lent S → Memory S
memory_of l = record { labels = l.store.labels.now; written = l.store.used; aboard = l.aboard.now; sheet = l.out.sheet.now; legs = l.out.legs.now }

-- a call answers a and leaves the memory m: that is the outcome o
abbrev pub Ends : {S : Type 0} → Outcome S → Result Answer Refusal → Memory S → Type 0
Ends o a m = Leaves o a m.labels m.written m.aboard m.sheet m.legs

-- the lists are those that were lent, so their owner knows what they hold
pub record SameLists {S : Type 0} (old new : Lent S) : Type 0 where
  pub labels : new.store.labels.ghost_name ≡ old.store.labels.ghost_name
  pub aboard : new.aboard.ghost_name ≡ old.aboard.ghost_name
  pub sheet : new.out.sheet.ghost_name ≡ old.out.sheet.ghost_name
  pub legs : new.out.legs.ghost_name ≡ old.out.legs.ghost_name

-- the same of memory that is lent in its parts, but for the list of those aboard, which is a parameter itself
pub record SameParts {S : Type 0} (store next : LabelStore S) (out left : Printout) : Type 0 where
  pub labels : next.labels.ghost_name ≡ store.labels.ghost_name
  pub sheet : left.sheet.ghost_name ≡ out.sheet.ghost_name
  pub legs : left.legs.ghost_name ≡ out.legs.ghost_name
