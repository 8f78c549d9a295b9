use Rattle.std.proofs.Common.{◌≡◌, IfOk, List, length, Ok, Result, sym, refl, ap, ◌∙◌, subst}
use Rattle.timetable.specs.declared.hops.Hop.{Hop}
use Rattle.timetable.specs.declared.refusals.Refusal.{Refusal}
use Rattle.timetable.specs.Table.{meant, open_list}
use Rattle.fares.specs.Surcharges.{surcharge_model}
use Rattle.rule_table.specs.OpenedTables.{table_of}
use Rattle.measures.specs.ZoneSets.{zones_model}
use Rattle.planner.specs.Lent.{memory_of, Ends}
use Rattle.day_planner.specs.Log.{asked_after}
use Rattle.ferry_cases.specs.FerryBoard.{ferry_hops, ferry_tariff}
use Rattle.ferry_cases.specs.FerryCases.{ferry_basis}
use Rattle.ferry_cases.proofs.CasesRun.{same_room_left}
use Rattle.ferry_cases.proofs.running.ask_given.Goals as goal

pub returns : goal.returns
returns c =
    let tariff : surcharge_model c.unwrap-2.result.event c.unwrap-2.result.extra (table_of c.unwrap-2.result.below) ≡ ferry_tariff =
    subst (λ r. IfOk r (λ t. surcharge_model t.event t.extra (table_of t.below) ≡ ferry_tariff)) c.unwrap-2.ensures c.tariff.ensures.tariff in
    let meant_list : ◌≡◌ {A = Result (List Hop) Refusal} (Ok c.unwrap.result.hops.now) (Ok ferry_hops) =
    (λ i. meant (λ l. l.hops.now) (sym c.unwrap.ensures i)) ∙ c.over.ensures.answer ∙ (λ i. open_list (c.hops-hops.ensures.hops i)) in
    let hops : c.unwrap.result.hops.now ≡ ferry_hops = cc in
    let log = c.args.given.now.log.now in
    let q = c.args.given.now.question in
    let m = memory_of c.args.lent.now in
    let ends = subst (λ o. Ends o c.ask_after.result (memory_of c.ask_after.new.lent))
    (λ i. asked_after (record { tariff = tariff i; measure = zones_model; hops = hops i; stops = c.network.ensures.stops i; paths = c.network.ensures.paths i }) log q m)
    c.ask_after.ensures.outcome in
    let same = same_room_left (ferry_basis ferry_tariff) refl log q m in
    record {
      outcome = ends;
      same_room = record {
        labels = ap length ends.labels ∙ same.labels;
        aboard = ap length ends.aboard ∙ same.aboard;
        sheet = ap length ends.sheet ∙ same.sheet;
        legs = ap length ends.legs ∙ same.legs;
      };
    }
