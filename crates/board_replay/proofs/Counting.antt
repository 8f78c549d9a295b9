-- How many lines a file has stays the same while it is read, and each line has its number.
use Rattle.std.proofs.Common.{◌≡◌, ℕ, suc, ◌+◌, ◌-◌, ◌^◌, ◌≤◌, ◌<◌, List, [], ◌∷◌, length, Option, Some, None, Ok, Err, Result, Vec, Global, refl, sym, ap, ◌∙◌, arith}
use Rattle.std.proofs.lemmas.List.{length-map}
use Rattle.case_lines.specs.declared.line.Line.{Line}
use Rattle.case_lines.specs.Reading.{seen, line_of}
use Rattle.board_replay.specs.declared.failure.Failure.{Failure}
use Rattle.board_replay.specs.declared.failure.Failure.TheVariants as failures
use Rattle.board_replay.specs.Replays.{Turn, Enters}
use Rattle.board_replay.specs.Streams.{Event, lines_in, said_in, left_in, next_number, held, lines_ahead, count_from, Place, left_at, next_at, count_at, StandsBefore, Numbers, EndlessAt, ReadsOn, ReadsUpTo}

said_length : (text : List ℕ) → length (said_in text) ≡ length (lines_in text)
said_length text = length-map (lines_in text) line_of

-- the lines that are left are those behind the next number
count_is : (kept : Option Line) (unread : Option (List ℕ)) (number : ℕ) (events : List Event) → left_in kept unread ≡ Some events → suc (count_from number unread) ≡ next_number kept number + length events
count_is kept None number events e = cc
count_is None (Some text) number events e =
    let same : said_in text ≡ events = cc in
    let long : length (lines_in text) ≡ length events = sym (said_length text) ∙ ap (λ (es : List Event). length es) same in
    omega (arith, long)
count_is (Some line) (Some text) number events e =
    let same : Ok (seen line) ∷ said_in text ≡ events = cc in
    let long : suc (length (lines_in text)) ≡ length events = sym (ap (λ n. suc n) (said_length text)) ∙ ap (λ (es : List Event). length es) same in
    omega (arith, long)

pub left_count : (p : Place) (events : List Event) → left_at p ≡ Some events → suc (count_at p) ≡ next_at p + length events
left_count p events e = count_is p.kept p.unread p.number events e

-- a line that has the next number stands before those behind it
pub stands_before : (before after : Place) (events rest : List Event) (event : Event) → left_at before ≡ Some events → events ≡ event ∷ rest → after.number ≡ next_at before → StandsBefore after rest (count_at before)
stands_before before after events rest event e is next =
    let all = left_count before events e in
    let long : length events ≡ suc (length rest) = ap (λ (es : List Event). length es) is in
    omega (arith, all, long, next)

next_of_none : (p : Place) → p.kept ≡ None → next_at p ≡ suc p.number
next_of_none p none = ap (λ k. next_number k p.number) none

-- and then the file has as many lines as before
pub count_stays : (before after : Place) (events rest : List Event) (event : Event) → left_at before ≡ Some events → events ≡ event ∷ rest → after.number ≡ next_at before → after.kept ≡ None → left_at after ≡ Some rest
    → count_at after ≡ count_at before
count_stays before after events rest event e is next none left =
    let stands : after.number + length rest ≡ count_at before = stands_before before after events rest event e is next in
    let all = left_count after rest left in
    let one = next_of_none after none in
    omega (arith, stands, all, one)

-- the same where no line is left
none_left : (kept : Option Line) (unread : Option (List ℕ)) → left_in kept unread ≡ Some [] → kept ≡ None
none_left kept None e = cc
none_left None (Some text) e = refl
none_left (Some line) (Some text) e = cc

pub count_at_end : (before after : Place) → left_at before ≡ Some [] → after.number ≡ before.number → after.kept ≡ None → left_at after ≡ Some [] → count_at after ≡ count_at before
count_at_end before after e same none left =
    let old = left_count before [] e in
    let new = left_count after [] left in
    let first = next_of_none before (none_left before.kept before.unread e) in
    let second = next_of_none after none in
    omega (arith, old, new, first, second, same)

pub ahead_begun : (p : Place) → lines_ahead p ≤ lines_ahead p
ahead_begun p = omega (arith)

pub ahead_to_case : (start before after : Place) → lines_ahead before ≤ lines_ahead start → lines_ahead after < lines_ahead before → lines_ahead after < lines_ahead start
ahead_to_case start before after le lt = omega (arith, le, lt)

pub ahead_further : (start before after : Place) → lines_ahead before ≤ lines_ahead start → lines_ahead after < lines_ahead before → lines_ahead after ≤ lines_ahead start
ahead_further start before after le lt = omega (arith, le, lt)

pub ahead_still : (start before after : Place) → lines_ahead before ≤ lines_ahead start → lines_ahead after ≤ lines_ahead before → lines_ahead after ≤ lines_ahead start
ahead_still start before after le more = omega (arith, le, more)

-- a line that is put back may be read again
pub put_back_ahead : (start before after back : Place) (line : Line) → lines_ahead before ≤ lines_ahead start → lines_ahead after < lines_ahead before → after.kept ≡ None → back.number ≡ after.number → back.kept ≡ Some line → lines_ahead back ≤ lines_ahead start
put_back_ahead start before after back line le lt none same some =
    let one : held back.kept ≡ 1 = ap held some in
    let nought : held after.kept ≡ 0 = ap held none in
    let here : 2 ^ 64 - back.number ≡ 2 ^ 64 - after.number = ap (λ n. 2 ^ 64 - n) same in
    omega (arith, le, lt, one, nought, here)

-- a line that is not read
pub reads_none : (start before after : Place) (failure : Failure) → Numbers before (Err failure) after → ReadsOn start (Err failure) after
reads_none start before after failures.Memory h = tt
reads_none start before after (failures.Input error) h = tt
reads_none start before after (failures.Unreadable fault) h = tt
reads_none start before after failures.Endless h = h
reads_none start before after (failures.Misplaced fault) h = absurd h
reads_none start before after (failures.Opening refusal) h = absurd h

-- a line that is not entered
pub enters_none : (start after : Place) (turn : Turn) (failure : Failure) → Enters turn (Err failure) → ReadsOn start (Err failure) after
enters_none start after turn failures.Memory h = tt
enters_none start after turn (failures.Misplaced fault) h = tt
enters_none start after turn (failures.Input error) h = absurd h
enters_none start after turn (failures.Unreadable fault) h = absurd h
enters_none start after turn failures.Endless h = absurd h
enters_none start after turn (failures.Opening refusal) h = absurd h

pub loads_none : (start before after : Place) (failure : Failure) → Numbers before (Err failure) after → ReadsUpTo start (Err failure) after
loads_none start before after failures.Memory h = tt
loads_none start before after (failures.Input error) h = tt
loads_none start before after (failures.Unreadable fault) h = tt
loads_none start before after failures.Endless h = h
loads_none start before after (failures.Misplaced fault) h = absurd h
loads_none start before after (failures.Opening refusal) h = absurd h

-- at the end the line that was read last is the last one
pub stands_at_end : (p : Place) → p.kept ≡ None → left_at p ≡ Some [] → p.number + length {A = Event} [] ≡ count_at p
stands_at_end p none left =
    let all = left_count p [] left in
    let one = next_of_none p none in
    omega (arith, all, one)

-- what was put back is read again
pub loads_failed : (start here : Place) (failure : Failure) → ReadsUpTo start (Err failure) here → ReadsOn start (Err failure) here
loads_failed start here failures.Memory h = tt
loads_failed start here (failures.Input error) h = tt
loads_failed start here (failures.Unreadable fault) h = tt
loads_failed start here (failures.Misplaced fault) h = tt
loads_failed start here failures.Endless h = h
loads_failed start here (failures.Opening refusal) h = absurd h

pub reads_after : (start here : Place) (r : Result (Option (Vec ℕ Global)) Failure) (after : Place) → lines_ahead here ≤ lines_ahead start → ReadsOn here r after → ReadsOn start r after
reads_after start here (Ok None) after le h = tt
reads_after start here (Ok (Some name)) after le h = omega (arith, le, h)
reads_after start here (Err failures.Endless) after le h = h
reads_after start here (Err (failures.Opening refusal)) after le h = omega (arith, le, h)
reads_after start here (Err failures.Memory) after le h = tt
reads_after start here (Err (failures.Input error)) after le h = tt
reads_after start here (Err (failures.Unreadable fault)) after le h = tt
reads_after start here (Err (failures.Misplaced fault)) after le h = tt

pub endless_of : (start after : Place) (failure : Failure) → ReadsOn start (Err failure) after → EndlessAt {X = Unit {0}} (Err failure) after
endless_of start after failure h = λ is. go failure h (cc)
  where
    go : (failure : Failure) → ReadsOn start (Err failure) after → failure ≡ failures.Endless → after.number ≡ 2 ^ 64 - 1
    go failures.Endless h e = h
    go failures.Memory h e = cc
    go (failures.Input error) h e = cc
    go (failures.Unreadable fault) h e = cc
    go (failures.Misplaced fault) h e = cc
    go (failures.Opening refusal) h e = cc
