-- A board that does not open.
use Rattle.std.proofs.Common.{◌≡◌, ℕ, List, [], ◌∷◌, ◌++◌, Option, Some, None, IfSome, Ok, Err, Result, Vec, Global, refl, sym, ap, ◌∙◌, subst}
use Rattle.std.proofs.lemmas.List.{append-nil}
use Rattle.std.specs.Io.KnownBytes.{Appends, Keeps}
use Rattle.records.specs.declared.opening_refusal.OpeningRefusal.{OpeningRefusal}
use Rattle.records.specs.declared.opening_refusal.OpeningRefusal.TheVariants as refusals
use Rattle.records.specs.Records.{refused, opening_record}
use Rattle.board_replay.specs.declared.failure.Failure.{Failure}
use Rattle.board_replay.specs.declared.failure.Failure.TheVariants as failures
use Rattle.board_replay.specs.Boards.{Opened, Opens, opening_cause, opened_or_skipped}
use Rattle.board_replay.specs.Replays.{Came, onto, Turn, goes_on, next_board, wrong, turned, turn_of, skipped, Comes, Runs}
use Rattle.board_replay.specs.Streams.{Event, Place, left_at, count_at}
use Rattle.board_replay.specs.Writes.{AppendsFront}
use Rattle.board_replay.proofs.Known.{where_known, known}
use Rattle.board_replay.proofs.Onward.{front_more}

-- its record is its refusal
pub record_is : (r : OpeningRefusal) → opening_record r ≡ refused (opening_cause r).0 (opening_cause r).1
record_is (refusals.Timetable refusal) = refl
record_is (refusals.Table refusal) = refl
record_is (refusals.Fares refusal) = refl

turned_nothing : (t : Turn) (events : List Event) (came : Came) → came.written ≡ [] → (turned t events came).written ≡ []
turned_nothing goes_on events came h = h
turned_nothing (next_board name) events came h = refl
turned_nothing (wrong fault) events came h = refl

-- and nothing of its log
skipped_nothing : (events : List Event) → (skipped events).written ≡ []
unfolding skipped
skipped_nothing [] = refl
skipped_nothing (Err fault ∷ events) = refl
skipped_nothing (Ok said ∷ events) = turned_nothing (turn_of said) events (skipped events) (skipped_nothing events)

-- what was kept, and then written
wrote_after : (old mid new : Option (List ℕ)) (text : List ℕ) → Keeps old mid → Appends mid new text → Appends old new text
wrote_after None mid new text k a = tt
wrote_after (Some x) None new text k a = absurd k
wrote_after (Some x) (Some y) None text k a = absurd a
wrote_after (Some x) (Some y) (Some z) text k a = a ∙ ap (λ l. l ++ text) k

kept_nothing : (old new : Option (List ℕ)) → Keeps old new → Appends old new []
kept_nothing None new k = tt
kept_nothing (Some x) None k = absurd k
kept_nothing (Some x) (Some y) k = k ∙ sym (append-nil x)

-- what comes of the log behind the refusal
module _ (events : List Event) (count : ℕ) (after : Place) (old mid new : Option (List ℕ)) (text : List ℕ) (kept : Keeps old mid) (wrote : Appends mid new text) where
  written : Appends old new (text ++ (skipped events).written)
  written = subst (λ (t : List ℕ). Appends old new t) (sym (ap (λ r. text ++ r) (skipped_nothing events) ∙ append-nil text)) (wrote_after old mid new text kept wrote)

  all_front : AppendsFront old new (text ++ (skipped events).written)
  all_front = (text, (skipped events).written, refl, wrote_after old mid new text kept wrote)

  pub behind : (r : Result (Option (Vec ℕ Global)) Failure) → Comes (skipped events) count r after None None → Comes (onto text (skipped events)) count r after old new
  behind (Ok None) h = (h.0, written)
  behind (Ok (Some name)) h = (h.0, h.1, h.2, h.3, written)
  behind (Err (failures.Unreadable fault)) h = (h.0, h.1, h.2, written)
  behind (Err (failures.Misplaced fault)) h = (h.0, h.1, h.2, written)
  behind (Err failures.Memory) h = all_front
  behind (Err (failures.Input error)) h = all_front
  behind (Err failures.Endless) h = all_front
  behind (Err (failures.Opening refusal)) h = h

-- an answer that is no refusal to open
pub opened_well : (o : Opened) (before : Place) (r : Result (Option (Vec ℕ Global)) Failure) (after : Place) (old new : Option (List ℕ)) → ((refusal : OpeningRefusal) → r ≡ Err (failures.Opening refusal) → ⊥)
    → Opens o before r after old new → Runs (opened_or_skipped o) before r after old new
opened_well (Ok came) before r after old new other h = h
opened_well (Err c) before (Ok next) after old new other h = absurd h.0
opened_well (Err c) before (Err (failures.Opening refusal)) after old new other h = absurd (other refusal refl)
opened_well (Err c) before (Err failures.Memory) after old new other h = absurd h.0
opened_well (Err c) before (Err (failures.Input error)) after old new other h = absurd h.0
opened_well (Err c) before (Err (failures.Unreadable fault)) after old new other h = absurd h.0
opened_well (Err c) before (Err (failures.Misplaced fault)) after old new other h = absurd h.0
opened_well (Err c) before (Err failures.Endless) after old new other h = absurd h.0

module _ (o : Opened) (before here : Place) (refusal : OpeningRefusal) (old mid : Option (List ℕ)) (opens : Opens o before (Err (failures.Opening refusal)) here old mid) where
  -- a refusal to open whose record could not be made
  pub refused_unwritten : (after : Place) → Runs (opened_or_skipped o) before (Err failures.Memory) after old mid
  refused_unwritten after = go o opens
    where
      go : (o : Opened) → Opens o before (Err (failures.Opening refusal)) here old mid → Runs (opened_or_skipped o) before (Err failures.Memory) after old mid
      go (Ok came) h = where_known (left_at before) _ (λ events e. absurd (known (λ events. Comes (came events) (count_at before) (Err (failures.Opening refusal)) here old mid) events e h))
      go (Err c) h = where_known (left_at before) _ (λ events e. ([], (opened_or_skipped (Err c) events).written, refl, kept_nothing old mid h.2))

  module _ (new : Option (List ℕ)) (text : List ℕ) (is : text ≡ opening_record refusal) where
    text_is : (c : ℕ × List ℕ) → opening_cause refusal ≡ c → text ≡ refused c.0 c.1
    text_is c e = is ∙ record_is refusal ∙ ap (λ (n : ℕ × List ℕ). refused n.0 n.1) e

    -- or was written in part
    pub refused_in_part : AppendsFront mid new text → IfSome (left_at before) (λ events. AppendsFront old new (opened_or_skipped o events).written)
    refused_in_part part = go o opens
      where
        go : (o : Opened) → Opens o before (Err (failures.Opening refusal)) here old mid → IfSome (left_at before) (λ events. AppendsFront old new (opened_or_skipped o events).written)
        go (Ok came) h = where_known (left_at before) _ (λ events e. absurd (known (λ events. Comes (came events) (count_at before) (Err (failures.Opening refusal)) here old mid) events e h))
        go (Err c) h = where_known (left_at before) _ (λ events e.
            front_more old mid new [] text (skipped events).written (opened_or_skipped (Err c) events).written (kept_nothing old mid h.2) (ap (λ (t : List ℕ). t ++ (skipped events).written) (sym (text_is c h.0))) part)

    -- its record, and then the log
    pub refused_well : (r : Result (Option (Vec ℕ Global)) Failure) (after : Place) → Appends mid new text → Runs skipped here r after None None → Runs (opened_or_skipped o) before r after old new
    refused_well r after wrote skips = go o opens
      where
        go : (o : Opened) → Opens o before (Err (failures.Opening refusal)) here old mid → Runs (opened_or_skipped o) before r after old new
        go (Ok came) h = where_known (left_at before) _ (λ events e. absurd (known (λ events. Comes (came events) (count_at before) (Err (failures.Opening refusal)) here old mid) events e h))
        go (Err c) h = where_known (left_at before) _ (λ events e.
            behind events (count_at before) after old mid new (refused c.0 c.1) h.2 (subst (λ (t : List ℕ). Appends mid new t) (text_is c h.0) wrote) r
            (known (λ events. Comes (skipped events) (count_at before) r after None None) events e (subst (λ (p : Place). Runs skipped p r after None None) h.1 skips)))
