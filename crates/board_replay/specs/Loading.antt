-- What a board was loaded with, line by line, and what is wrong with a line that cannot stand where it does.
-- Assumes nothing.
use Rattle.std.specs.Prelude.{◌≡◌, ℕ, List, [], ◌∷◌, ◌++◌, Option, Some, None, Ok, Err, Result}
use Rattle.timetable.specs.declared.hops.Hop.{Hop}
use Rattle.rule_table.specs.declared.rule.Rule.{Rule}
use Rattle.journeys.specs.declared.network.Footpath.{Footpath}
use Rattle.journeys.specs.declared.network.Stop.{Stop}
use Rattle.case_lines.specs.declared.line.Extra.{Extra}
use Rattle.case_lines.specs.declared.line.Load.{Load}
use Rattle.case_lines.specs.declared.line.Load.TheVariants as loads
use Rattle.case_lines.specs.declared.line.MeasureName.{MeasureName}
use Rattle.case_lines.specs.declared.line.PriceTable.{PriceTable}
use Rattle.case_lines.specs.declared.line.Room.{Room}
use Rattle.board_replay.specs.declared.failure.Failure.{Failure}
use Rattle.board_replay.specs.declared.failure.Failure.TheVariants as failures
use Rattle.board_replay.specs.declared.fault.Fault.{Fault}
use Rattle.board_replay.specs.declared.fault.Fault.TheVariants.{Again, RuleBeforeTable}
use Rattle.board_replay.specs.declared.loaded.Base.{Base}
use Rattle.board_replay.specs.declared.loaded.Base.TheVariants as bases
use Rattle.board_replay.specs.declared.loaded.Loaded.{Loaded}
use Rattle.board_replay.specs.declared.loaded.Timing.{Timing}
use Rattle.board_replay.specs.declared.loaded.Timing.TheVariants as timings

-- the tariff below a surcharge, wherever it lies in memory
pub data Tariff : Type 0 where
  -- the start ticket of each class, and the price of each ticket
  table : List ℕ → List ℕ → Tariff
  -- the lowest ticket's price, and the step to the next
  ladder : ℕ → ℕ → Tariff

-- what a board was loaded with
pub record Handed : Type 0 where
  pub timing : Option Timing
  pub hops : List Hop
  pub stops : List Stop
  pub paths : List Footpath
  pub measure : Option MeasureName
  pub tariff : Option Tariff
  pub rules : List Rule
  pub surcharge : Option Extra
  pub room : Option Room

-- nothing
abbrev pub nothing_handed : Handed
nothing_handed = record { timing = None; hops = []; stops = []; paths = []; measure = None; tariff = None; rules = []; surcharge = None; room = None }

-- a table that was read
abbrev pub said_table : PriceTable → Tariff
said_table t = table t.starts t.prices.items

-- a tariff that is kept
abbrev pub said_base : Base → Tariff
said_base (bases.Table t) = said_table t
said_base (bases.Ladder first step) = ladder first step

abbrev pub said_tariff : Option Base → Option Tariff
said_tariff None = None
said_tariff (Some base) = Some (said_base base)

-- what is kept of what was handed in
abbrev pub handed : Loaded → Handed
handed l = record {
  timing = l.timing;
  hops = l.hops.items;
  stops = l.stops.items;
  paths = l.paths.items;
  measure = l.measure;
  tariff = said_tariff l.base;
  rules = l.rules.items;
  surcharge = l.surcharge;
  room = l.room;
}

-- what may stand once is taken where there is none yet
abbrev pub once : {A : Type 0} → Option A → Handed → Result Handed Fault
once None new = Ok new
once (Some there) new = Err Again

-- the same, as a call answers it, and what it leaves
abbrev pub answer_once : {A : Type 0} → Option A → Result (Unit {0}) Fault
answer_once None = Ok tt
answer_once (Some there) = Err Again

abbrev pub left_once : {A : Type 0} → Option A → A → Option A
left_once None value = Some value
left_once (Some there) value = Some there

-- a table or a ladder
abbrev pub table_taken : Handed → Tariff → Result Handed Fault
table_taken h tariff = once h.tariff (record h { tariff = Some tariff })

-- a rule, behind its table
abbrev pub rule_for : Option Tariff → Handed → Result Handed Fault
rule_for (Some (table starts prices)) new = Ok new
rule_for (Some (ladder first step)) new = Err RuleBeforeTable
rule_for None new = Err RuleBeforeTable

abbrev pub rule_taken : Handed → Rule → Result Handed Fault
rule_taken h rule = rule_for h.tariff (record h { rules = h.rules ++ rule ∷ [] })

-- what a board is loaded with, with one more line
abbrev pub taken : Handed → Load → Result Handed Fault
taken h loads.HopList = once h.timing (record h { timing = Some timings.HopList })
taken h (loads.IntervalLine interval trips) = once h.timing (record h { timing = Some (timings.IntervalLine interval trips) })
taken h (loads.Hop hop) = Ok (record h { hops = h.hops ++ hop ∷ [] })
taken h (loads.Stop stop) = Ok (record h { stops = h.stops ++ stop ∷ [] })
taken h (loads.Footpath path) = Ok (record h { paths = h.paths ++ path ∷ [] })
taken h (loads.Measure measure) = once h.measure (record h { measure = Some measure })
taken h (loads.Rule rule) = rule_taken h rule
taken h (loads.Ladder first step) = table_taken h (ladder first step)
taken h (loads.Surcharge extra) = once h.surcharge (record h { surcharge = Some extra })
taken h (loads.Room room) = once h.room (record h { room = Some room })

-- A call left what is to be taken, or said what is wrong and left what was there; where memory ran out, too.
abbrev pub Takes : {X : Type 0} → Result X Failure → Handed → Handed → Result Handed Fault → Type 0
Takes (Ok x) old new after = after ≡ Ok new
Takes (Err failures.Memory) old new after = new ≡ old
Takes (Err (failures.Misplaced fault)) old new after = (after ≡ Err fault) × (new ≡ old)
Takes (Err (failures.Input error)) old new after = ⊥
Takes (Err (failures.Unreadable fault)) old new after = ⊥
Takes (Err (failures.Opening refusal)) old new after = ⊥
Takes (Err failures.Endless) old new after = ⊥
