-- What a case prints that is run: it does not matter what the memory held, and so what is seen is what the case says.
use Rattle.std.proofs.lemmas.List.{length-replicate}
use Rattle.std.proofs.Common.{◌≡◌, ℕ, true, List, length, Ok, Err, Result, sym, refl, ap, ◌∙◌}
use Rattle.timetable.specs.Rule.{keeps}
use Rattle.timetable.specs.Table.{trips_of}
use Rattle.service_day.specs.DayStates.{first_day, meant_on}
use Rattle.service_day.specs.LayerRule.{both_keep}
use Rattle.fares.specs.declared.tickets.Marked.{Marked}
use Rattle.measures.specs.declared.weights.ZoneSet.{ZoneSet}
use Rattle.journeys.specs.declared.question.Question.{Question}
use Rattle.sheet.specs.declared.refusals.Refusal.{Refusal as SheetRefusal}
use Rattle.planner.specs.declared.answer.Answer.{Answer}
use Rattle.planner.specs.declared.refusal.Refusal.{Refusal}
use Rattle.planner.specs.Lent.{Ends}
use Rattle.planner.specs.Outcome.{Memory, Outcome}
use Rattle.planner.specs.Refusals.{numbered}
use Rattle.day_planner.specs.declared.entry.Entry.{Entry}
use Rattle.day_planner.specs.Log.{Basis, day_after, memory_after, asked_after}
use Rattle.day_planner.specs.Promise.{fare_of}
use Rattle.day_planner.specs.Rooms.{SameRoom, AnsweredAlike, SameAnswer}
use Rattle.day_planner.proofs.AfterLog.{log_sizes}
use Rattle.day_planner.proofs.Sizes.{asked_sizes}
use Rattle.day_planner.proofs.SameRooms.{same_room_same_answer}
use Rattle.ferry_cases.specs.declared.worked.AskingCase.{AskingCase}
use Rattle.ferry_cases.specs.declared.worked.AskingCase.TheVariants.{RoomToSpare, SixLabels, FiveLabels, TwoAboard, OneAboard, OneRide, HalfWay, ToTheOrigin, LandTripCancelled, FerryJustCaught, FerryMissed}
use Rattle.ferry_cases.specs.declared.worked.Printed.{Printed}
use Rattle.ferry_cases.specs.declared.worked.ReadingCase.{ReadingCase}
use Rattle.ferry_cases.specs.declared.worked.ReadingCase.TheVariants.{PriceOfZero, ByteLeftOver}
use Rattle.ferry_cases.specs.FerryBoard.{FerryState, ferry_tariff, no_label, no_passenger, blank_memory}
use Rattle.ferry_cases.specs.FerryCases.{Case, asks, reads, shown, shown_in, shown_after, ferry_basis, read_from, told, Holds, asking_case, reading_case, seen, Asks, IsReadFrom, Prints, Reads}
use Rattle.ferry_cases.proofs.Computed.{ferry_cases}

pub asking_holds : (k : AskingCase) → Holds (asking_case k)
asking_holds RoomToSpare = ferry_cases.0
asking_holds SixLabels = ferry_cases.1.0
asking_holds FiveLabels = ferry_cases.1.1.0
asking_holds TwoAboard = ferry_cases.1.1.1.0
asking_holds OneAboard = ferry_cases.1.1.1.1.0
asking_holds OneRide = ferry_cases.1.1.1.1.1.0
asking_holds HalfWay = ferry_cases.1.1.1.1.1.1.0
asking_holds ToTheOrigin = ferry_cases.1.1.1.1.1.1.1.0
asking_holds LandTripCancelled = ferry_cases.1.1.1.1.1.1.1.1.0
asking_holds FerryJustCaught = ferry_cases.1.1.1.1.1.1.1.1.1.0
asking_holds FerryMissed = ferry_cases.1.1.1.1.1.1.1.1.1.1.0

pub reading_holds : (k : ReadingCase) → Holds (reading_case k)
reading_holds PriceOfZero = ferry_cases.1.1.1.1.1.1.1.1.1.1.1.0
reading_holds ByteLeftOver = ferry_cases.1.1.1.1.1.1.1.1.1.1.1.1.0

-- of the same answer the same is seen
shown_alike : {S : Type 0} (o p : Outcome S) → SameAnswer o p → shown o ≡ shown p
shown_alike o p e = go o.answer p.answer e.answer e.written
  where
    go : (r s : Result Answer Refusal) → r ≡ s → AnsweredAlike r o.left p.left → shown_in o.left.sheet o.left.legs (numbered r) ≡ shown_in p.left.sheet p.left.legs (numbered s)
    go (Ok a) s d w =
        (λ i. Ok (record { rows = a.rows; labels = a.labels; sheet = w.sheet i; legs = w.legs i }))
        ∙ ap (λ (x : Result Answer Refusal). shown_in p.left.sheet p.left.legs (numbered x)) d
    go (Err x) s d w = ap (λ (x : Result Answer Refusal). shown_in p.left.sheet p.left.legs (numbered x)) d

-- a question after a log leaves each list as long as it was
pub same_room_left : (b : Basis (Marked ℕ) ZoneSet) → keeps b.hops ≡ true → (log : List Entry) (q : Question) (m : Memory FerryState) → SameRoom m (asked_after b log q m).left
same_room_left b rule log q m =
    let d = day_after (trips_of b.hops) first_day log in
    let u = log_sizes b rule first_day m log in
    let v = asked_sizes (fare_of b) (meant_on d b.hops) b.stops b.paths q (memory_after b first_day m log) (both_keep d.cancelled d.delay b.hops rule) in
    record { labels = v.labels ∙ u.labels; aboard = v.aboard ∙ u.aboard; sheet = v.sheet ∙ u.sheet; legs = v.legs ∙ u.legs }

-- A question was put as a case says, over the ferry's network, in a memory with as much room: what is seen is what must come of it.
module _ (log : List Entry) (q : Question) (labels aboard : ℕ) (m : Memory FerryState) (l : length m.labels ≡ labels) (p : length m.aboard ≡ aboard) (s : length m.sheet ≡ 225) (g : length m.legs ≡ 544)
    (r : Result Answer Refusal) (n : Memory FerryState) (ends : Ends (asked_after (ferry_basis ferry_tariff) log q m) r n) where
  abbrev c : Basis (Marked ℕ) ZoneSet
  c = ferry_basis ferry_tariff

  told_there : shown_in n.sheet n.legs (numbered r) ≡ shown_after ferry_tariff log q labels aboard
  unfolding shown_after
  told_there =
      let blank = blank_memory labels aboard in
      let alike : SameAnswer (asked_after c log q m) (asked_after c log q blank) = same_room_same_answer c refl log q m blank (record {
        labels = length-replicate labels no_label ∙ sym l;
        aboard = length-replicate aboard no_passenger ∙ sym p;
        sheet = sym s;
        legs = sym g;
      }) in
      (λ i. shown_in (ends.sheet i) (ends.legs i) (numbered (ends.answer i))) ∙ shown_alike (asked_after c log q m) (asked_after c log q blank) alike

  seen_in : (k : Case) → Holds k → Asks k log q labels aboard → (x : Result Printed Refusal) → seen x ≡ shown_in n.sheet n.legs (numbered r) → Prints k x
  seen_in (reads bytes result) h a x e = absurd a
  seen_in (asks log₀ q₀ labels₀ aboard₀ result) h a x e = e ∙ told_there ∙ (λ i. shown_after ferry_tariff (a.0 i) (a.1 i) (a.2 i) (a.3 i)) ∙ h

  pub printed : (k : Case) → Holds k → Asks k log q labels aboard → (answer : Answer) → r ≡ Ok answer → (x : Printed) → x.answer ≡ answer → x.sheet ≡ n.sheet → x.legs ≡ n.legs → Prints k (Ok x)
  printed k h a answer is x e d f = seen_in k h a (Ok x) ((λ i. shown_in (d i) (f i) (Ok (e i))) ∙ (λ i. shown_in n.sheet n.legs (numbered (sym is i))))

  pub refused_there : (k : Case) → Holds k → Asks k log q labels aboard → (refusal : Refusal) → r ≡ Err refusal → Prints k (Err refusal)
  refused_there k h a refusal is = seen_in k h a (Err refusal) (λ i. shown_in n.sheet n.legs (numbered (sym is i)))

-- Bytes were read as a case says.
pub was_read : (k : Case) → Holds k → (bytes : List ℕ) → IsReadFrom k bytes → (r : Result ℕ SheetRefusal) → told r ≡ read_from bytes → Reads k r
was_read (asks log q labels aboard result) h bytes e r d = absurd e
was_read (reads given result) h bytes e r d = d ∙ ap read_from e ∙ h
