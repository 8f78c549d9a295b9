-- The boards of both makers, by their fares: what they answer from, what a question after a log comes to, and what is promised.
-- Assumes nothing. How the timetable is held is left to each maker: a hop list or an interval line.
use Rattle.std.specs.Prelude.{ℕ, Bool, false, true, Result}
use Rattle.timetable.specs.declared.maker_timetable.MakerTimetable.{MakerTimetable}
use Rattle.timetable.specs.MakerTimetables.{maker_hops}
use Rattle.fares.specs.declared.fare_state.FareState.{FareState}
use Rattle.fares.specs.declared.ladders.Ladder.{Ladder}
use Rattle.fares.specs.declared.surcharges.Surcharge.{Surcharge}
use Rattle.fares.specs.declared.tickets.Marked.{Marked}
use Rattle.fares.specs.Ladders.{ladder_model}
use Rattle.fares.specs.Measures.{MeasureModel}
use Rattle.fares.specs.Surcharges.{surcharge_model}
use Rattle.measures.specs.declared.weights.Amount.{Amount}
use Rattle.measures.specs.declared.weights.Both.{Both}
use Rattle.measures.specs.declared.weights.Height.{Height}
use Rattle.measures.specs.declared.weights.ZoneSet.{ZoneSet}
use Rattle.measures.specs.Amounts.{count_model}
use Rattle.measures.specs.Heights.{level_model}
use Rattle.measures.specs.Pairs.{pair_model}
use Rattle.measures.specs.ZoneSets.{zones_model}
use Rattle.rule_table.specs.declared.table.RuleTable.{RuleTable}
use Rattle.rule_table.specs.OpenedTables.{table_of}
use Rattle.planner.specs.declared.answer.Answer.{Answer}
use Rattle.planner.specs.declared.refusal.Refusal.{Refusal}
use Rattle.planner.specs.declared.refused.Refused.{Refused}
use Rattle.planner.specs.Lent.{stops_of, paths_of}
use Rattle.planner.specs.Outcome.{Memory, Outcome}
use Rattle.day_planner.specs.declared.inquiry.Inquiry.{Inquiry}
use Rattle.day_planner.specs.Comparing.{SameBestAfter}
use Rattle.day_planner.specs.Inquiries.{log_of}
use Rattle.day_planner.specs.Log.{Basis, asked_after, hops_after}
use Rattle.day_planner.specs.Promise.{Promise}
use Rattle.day_planner.specs.Rooms.{AskedAlike, AnswerAlike}

-- what all four measures weigh
abbrev pub AllWeights : Type 0
AllWeights = Both (Both Amount Amount) (Both ZoneSet Height)

-- metres, stops, zones and levels
abbrev pub all_measures : MeasureModel AllWeights
all_measures = pair_model (pair_model (count_model false) (count_model true)) (pair_model zones_model level_model)

-- where a fare stands: by table, under a surcharge, and by ladder
abbrev pub TableState : Type 0
TableState = FareState (Marked ℕ) AllWeights

abbrev pub LadderState : Type 0
LadderState = FareState ℕ ZoneSet

-- by table: a table under a surcharge, and all four measures
abbrev pub table_basis : {M : Type 0} → Inquiry MakerTimetable (Surcharge RuleTable) M → Basis (Marked ℕ) AllWeights
table_basis i = record {
  tariff = surcharge_model i.tariff.event i.tariff.extra (table_of i.tariff.below);
  measure = all_measures;
  hops = maker_hops i.timetable;
  stops = stops_of i.network;
  paths = paths_of i.network;
}

-- by ladder: a ladder, and the zones
abbrev pub ladder_basis : {M : Type 0} → Inquiry MakerTimetable Ladder M → Basis ℕ ZoneSet
ladder_basis i = record {
  tariff = ladder_model i.tariff.first i.tariff.step;
  measure = zones_model;
  hops = maker_hops i.timetable;
  stops = stops_of i.network;
  paths = paths_of i.network;
}

-- what the question after the log comes to, in a memory
abbrev pub table_outcome : {M : Type 0} → Inquiry MakerTimetable (Surcharge RuleTable) M → Memory TableState → Outcome TableState
table_outcome i m = asked_after (table_basis i) (log_of i) i.question m

abbrev pub ladder_outcome : {M : Type 0} → Inquiry MakerTimetable Ladder M → Memory LadderState → Outcome LadderState
ladder_outcome i m = asked_after (ladder_basis i) (log_of i) i.question m

-- the promise for the question after the log, in a memory, where this is answered and that is left
abbrev pub TablePromise : {M : Type 0} → Inquiry MakerTimetable (Surcharge RuleTable) M → Memory TableState → Result Answer Refusal → Memory TableState → Type 0
TablePromise i m r n = Promise (table_basis i) (hops_after (maker_hops i.timetable) (log_of i)) i.question m r n

abbrev pub LadderPromise : {M : Type 0} → Inquiry MakerTimetable Ladder M → Memory LadderState → Result Answer Refusal → Memory LadderState → Type 0
LadderPromise i m r n = Promise (ladder_basis i) (hops_after (maker_hops i.timetable) (log_of i)) i.question m r n

-- the promise holds of what the question comes to
abbrev pub TableKept : {M : Type 0} → Inquiry MakerTimetable (Surcharge RuleTable) M → Memory TableState → Type 0
TableKept i m = TablePromise i m (table_outcome i m).answer (table_outcome i m).left

abbrev pub LadderKept : {M : Type 0} → Inquiry MakerTimetable Ladder M → Memory LadderState → Type 0
LadderKept i m = LadderPromise i m (ladder_outcome i m).answer (ladder_outcome i m).left

-- two questions after their logs have the same best offers
abbrev pub SameOffers : {T F M U G N K W L V : Type 0} → Basis K W → Inquiry T F M → Basis L V → Inquiry U G N → Type 0
SameOffers b i c j = SameBestAfter b (log_of i) i.question c (log_of j) j.question

-- Where both makers hold the same list of hops, and tariff, network, log and question are the same: where both boards answer they
-- answer the same, in any rooms; in the same room they answer the same, or refuse the same; and then they never differ.
abbrev pub TablesAlike : {M N : Type 0} → Inquiry MakerTimetable (Surcharge RuleTable) M → Memory TableState → Inquiry MakerTimetable (Surcharge RuleTable) N → Memory TableState → Result Bool Refused → Type 0
TablesAlike i m j n r =
    AskedAlike (table_basis i) (log_of i) i.question (table_basis j) (log_of j) j.question
    → AnswerAlike m n (table_outcome i m) (table_outcome j n) r

abbrev pub LaddersAlike : {M N : Type 0} → Inquiry MakerTimetable Ladder M → Memory LadderState → Inquiry MakerTimetable Ladder N → Memory LadderState → Result Bool Refused → Type 0
LaddersAlike i m j n r =
    AskedAlike (ladder_basis i) (log_of i) i.question (ladder_basis j) (log_of j) j.question
    → AnswerAlike m n (ladder_outcome i m) (ladder_outcome j n) r
