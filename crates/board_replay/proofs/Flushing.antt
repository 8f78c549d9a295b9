-- What was written of a file, where a buffer is flushed behind it.
use Rattle.std.proofs.Common.{ℕ, List, [], Option, IfSome, Ok, Err, Result, sym, ◌∙◌}
use Rattle.std.proofs.lemmas.List.{append-nil}
use Rattle.std.proofs.KnownBytes.{Appends-kept}
use Rattle.std.specs.Io.KnownBytes.{Appends, Keeps}
use Rattle.board_replay.specs.declared.failure.Failure.{Failure}
use Rattle.board_replay.specs.declared.failure.Failure.TheVariants as failures
use Rattle.board_replay.specs.Files.{file_record, came_of_file, Replays, Replayed}
use Rattle.board_replay.specs.Streams.{Event, Place, left_at, count_at}
use Rattle.board_replay.specs.Writes.{AppendsFront}
use Rattle.board_replay.proofs.Known.{where_known, known}
use Rattle.board_replay.proofs.Joining.{record_joined}

front_kept : (old new then : Option (List ℕ)) (whole : List ℕ) → AppendsFront old new whole → Keeps new then → AppendsFront old then whole
front_kept old new then whole part keeps = (part.0, part.1, part.2, Appends-kept old new then part.0 part.3 keeps)

-- what was written stays where the buffer is flushed
pub flushed : (start : Place) (r : Result (Unit {0}) Failure) (after : Place) (old new then : Option (List ℕ)) → Replayed start r after old new → Keeps new then → Replayed start r after old then
flushed start r after old new then replayed keeps = where_known (left_at start) _ (λ all e. go all r (known (λ all. Replays all (count_at start) r after old new) all e replayed))
  where
    go : (all : List Event) (r : Result (Unit {0}) Failure) → Replays all (count_at start) r after old new → Replays all (count_at start) r after old then
    go all (Ok x) p = (p.0, Appends-kept old new then (file_record all) p.1 keeps)
    go all (Err failures.Memory) p = front_kept old new then (came_of_file all).written p keeps
    go all (Err (failures.Input error)) p = front_kept old new then (came_of_file all).written p keeps
    go all (Err failures.Endless) p = front_kept old new then (came_of_file all).written p keeps
    go all (Err (failures.Unreadable fault)) p = record { rest = p.rest; ends_so = p.ends_so; numbered = p.numbered; written = Appends-kept old new then (came_of_file all).written p.written keeps }
    go all (Err (failures.Misplaced fault)) p = record { rest = p.rest; ends_so = p.ends_so; numbered = p.numbered; written = Appends-kept old new then (came_of_file all).written p.written keeps }
    go all (Err (failures.Opening refusal)) p = absurd p

-- whatever a replay ended with, a front part was written of what comes of the file
pub front_written : (start : Place) (r : Result (Unit {0}) Failure) (after : Place) (old new : Option (List ℕ)) → Replayed start r after old new → IfSome (left_at start) (λ all. AppendsFront old new (came_of_file all).written)
front_written start r after old new replayed = where_known (left_at start) _ (λ all e. go all r (known (λ all. Replays all (count_at start) r after old new) all e replayed))
  where
    whole : (all : List Event) → Appends old new (came_of_file all).written → AppendsFront old new (came_of_file all).written
    whole all wrote = ((came_of_file all).written, [], sym (append-nil (came_of_file all).written), wrote)

    go : (all : List Event) (r : Result (Unit {0}) Failure) → Replays all (count_at start) r after old new → AppendsFront old new (came_of_file all).written
    go all (Ok x) p = (file_record all, [], record_joined all p.0 ∙ sym (append-nil (file_record all)), p.1)
    go all (Err failures.Memory) p = p
    go all (Err (failures.Input error)) p = p
    go all (Err failures.Endless) p = p
    go all (Err (failures.Unreadable fault)) p = whole all p.written
    go all (Err (failures.Misplaced fault)) p = whole all p.written
    go all (Err (failures.Opening refusal)) p = absurd p
