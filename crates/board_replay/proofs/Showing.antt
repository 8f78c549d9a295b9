-- The record of an answered question shows its best offers, and its sheet is read back.
use Rattle.std.proofs.Common.{◌≡◌, ℕ, List, ◌++◌, take, Ok, Err, Result, sym, refl, ap, ◌∙◌, subst}
use Rattle.std.specs.List.{flat_map}
use Rattle.fares.specs.declared.fare_state.FareState.{FareState}
use Rattle.journeys.specs.declared.leg.Leg.{Leg}
use Rattle.journeys.specs.declared.question.Question.{Question}
use Rattle.service_day.specs.DayStates.{DayState, meant_on}
use Rattle.planner.specs.declared.answer.Answer.{Answer}
use Rattle.planner.specs.declared.refusal.Refusal.{Refusal as AskRefusal}
use Rattle.planner.specs.Outcome.{Memory}
use Rattle.planner.specs.Promise.{Shows}
use Rattle.day_planner.specs.declared.entry.Entry.{Entry}
use Rattle.day_planner.specs.declared.entry.Entry.TheVariants.{Cancel, Reinstate, Delay, Ask}
use Rattle.day_planner.specs.declared.refusal.Refusal.{Refusal}
use Rattle.day_planner.specs.declared.reply.Reply.{Reply}
use Rattle.day_planner.specs.declared.reply.Reply.TheVariants.{Answered}
use Rattle.day_planner.specs.Entering.{EntryPromise, EntryIsAnswered}
use Rattle.day_planner.specs.Log.{Basis, answered, reply_to, memory_left}
use Rattle.day_planner.specs.Promise.{Promise, journeys_over}
use Rattle.records.specs.Records.{counts_line, sheet_line, leg_line, reply_record, claim_record}
use Rattle.records.proofs.Telling.{claim_told}
use Rattle.case_lines.proofs.ReadingBack.{claim_line}
use Rattle.board_replay.specs.LogRecords.{RecordShowsBest, RecordPromise, SheetIsReadBack}

module _ {K W : Type 0} (b : Basis K W) (d : DayState) where
  -- what a sheet and legs show, their record does
  best_recorded : (q : Question) (a : Answer) (sheet : List ℕ) (legs : List Leg) → Shows (journeys_over b (meant_on d b.hops) q) q.destination q.rides a sheet legs
      → RecordShowsBest b d (Ask q) (Ok (Answered a)) (reply_record (Ok (Answered a)) sheet legs)
  best_recorded q a sheet legs s = record {
    connections = s.connections;
    rows = s.rows;
    lines = λ i. counts_line a ++ sheet_line (s.sheet i) ++ flat_map leg_line (s.legs i);
    handed = s.handed;
    best = s.best;
    all = s.all;
  }

  entry_shows : (m : Memory (FareState K W)) (e : Entry) (reply : Result Reply Refusal) (n : Memory (FareState K W)) → EntryIsAnswered b d m e reply n
      → RecordShowsBest b d e reply (reply_record reply n.sheet n.legs)
  entry_shows m (Cancel trip) reply n p = tt
  entry_shows m (Reinstate trip) reply n p = tt
  entry_shows m (Delay trip seconds) reply n p = tt
  entry_shows m (Ask q) reply n p = subst (λ r. RecordShowsBest b d (Ask q) r (reply_record r n.sheet n.legs)) (sym p.told) (go p.answer p.promise)
    where
      go : (r : Result Answer AskRefusal) → Promise b (meant_on d b.hops) q m r n → RecordShowsBest b d (Ask q) (answered r) (reply_record (answered r) n.sheet n.legs)
      go (Ok a) promise = best_recorded q a n.sheet n.legs promise.shown
      go (Err refusal) promise = tt

  -- an entry that keeps its promise, recorded by the memory that it leaves
  pub record_promise : (m : Memory (FareState K W)) (e : Entry) (reply : Result Reply Refusal) (n : Memory (FareState K W)) → reply ≡ reply_to b d m e → n ≡ memory_left b d m e
      → EntryPromise b d m e reply n → RecordPromise b d m e n
  record_promise m e reply n told left p =
      let promise : EntryPromise b d m e (reply_to b d m e) n = subst (λ r. EntryPromise b d m e r n) told p in
      record {
        entry = promise;
        shown = subst (λ (k : Memory (FareState K W)). RecordShowsBest b d e (reply_to b d m e) (reply_record (reply_to b d m e) k.sheet k.legs)) left (entry_shows m e (reply_to b d m e) n promise.question);
      }

  pub sheet_read_back : (m : Memory (FareState K W)) (q : Question) → SheetIsReadBack b d m q
  sheet_read_back m q a is h bytes =
      let sheet = (memory_left b d m (Ask q)).sheet in (
        claim_line q (take a.bytes sheet) h bytes,
        ap (λ r. claim_record r sheet (take a.bytes sheet)) is ∙ (claim_told (Ok (Answered a)) sheet (take a.bytes sheet)).0 refl,
      )
