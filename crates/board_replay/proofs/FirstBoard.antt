-- The first board of a file, and a file board by board.
use Rattle.std.proofs.Common.{◌≡◌, ℕ, Bool, true, false, ◌||◌, cond, List, [], ◌∷◌, ◌++◌, drop, Option, Some, None, IfSome, Ok, Err, Result, Vec, Global, refl, sym, ap, ◌∙◌, subst, append_assoc}
use Rattle.std.proofs.lemmas.List.{append-nil}
use Rattle.std.proofs.KnownBytes.{Appends-nil, Appends-trans, Keeps-refl}
use Rattle.std.specs.Io.KnownBytes.{Appends}
use Rattle.records.specs.Records.{case_record}
use Rattle.board_replay.specs.declared.failure.Failure.{Failure}
use Rattle.board_replay.specs.declared.failure.Failure.TheVariants as failures
use Rattle.board_replay.specs.declared.fault.Fault.TheVariants.{NoTariff}
use Rattle.board_replay.specs.Boards.{opened_by, opened_or_skipped, board_from}
use Rattle.board_replay.specs.Files.{Load, stops_at, Loads, LoadsOn, come_of, first_board, loaded_from, Board, boards_in, ended_by, came_from, came_of_file, Replays, Replayed}
use Rattle.board_replay.specs.Loading.{Tariff, Handed, nothing_handed}
use Rattle.board_replay.specs.Replays.{End, finished, next_case, unreadable, misplaced, Came, onto, skipped, Comes, Runs}
use Rattle.board_replay.specs.Streams.{Event, Place, left_at, count_at}
use Rattle.board_replay.specs.Writes.{AppendsFront}
use Rattle.board_replay.proofs.Known.{where_known, known}
use Rattle.board_replay.proofs.Onward.{front_more}
use Rattle.board_replay.proofs.Refusing.{behind}
use Rattle.board_replay.proofs.Parting.{first_parts}
use Rattle.board_replay.proofs.Joining.{record_joined}

module _ (start : Place) (named : Bool) (h : Handed) (here : Place) where
  -- nothing could be loaded
  pub not_loaded : (failure : Failure) (old : Option (List ℕ)) → LoadsOn nothing_handed start (Err failure) h here → Runs (first_board named) start (Err failure) here old old
  not_loaded failure old loads = where_known (left_at start) _ (λ all e.
      go (loaded_from nothing_handed false all) failure (known (λ all. Loads (loaded_from nothing_handed false all) (count_at start) (Err failure) h here) all e loads))
    where
      nothing_yet : (c : Came) → AppendsFront old old c.written
      nothing_yet c = ([], c.written, refl, Appends-nil old)

      go : (l : Load) (failure : Failure) → Loads l (count_at start) (Err failure) h here → Comes (come_of named l) (count_at start) (Err failure) here old old
      go l failures.Memory k = nothing_yet (come_of named l)
      go l (failures.Input error) k = nothing_yet (come_of named l)
      go l failures.Endless k = nothing_yet (come_of named l)
      go l (failures.Unreadable fault) k = (k.0, ap (λ l. (come_of named l).end) k.1, k.2, subst (λ (t : List ℕ). Appends old old t) (sym (ap (λ l. (come_of named l).written) k.1)) (Appends-nil old))
      go l (failures.Misplaced fault) k = (k.0, ap (λ l. (come_of named l).end) k.1, k.2, subst (λ (t : List ℕ). Appends old old t) (sym (ap (λ l. (come_of named l).written) k.1)) (Appends-nil old))
      go l (failures.Opening refusal) k = absurd k

  module _ (begun : Bool) (loads : LoadsOn nothing_handed start (Ok begun) h here) where
    came_is : (all events : List Event) → loaded_from nothing_handed false all ≡ stops_at h begun events → first_board named all ≡ cond (named || begun) (board_from h events) (skipped events)
    came_is all events is = ap (come_of named) is

    -- the lines left are of a board
    pub board_comes : (named || begun) ≡ true → (base : Tariff) → h.tariff ≡ Some base → (r : Result (Option (Vec ℕ Global)) Failure) (after : Place) (old new : Option (List ℕ)) → Runs (opened_or_skipped (opened_by (Some base) h)) here r after old new
        → Runs (first_board named) start r after old new
    board_comes is base tariff r after old new comes = where_known (left_at start) _ (λ all e.
        let l = known (λ all. Loads (loaded_from nothing_handed false all) (count_at start) (Ok begun) h here) all e loads in
        let c = known (λ events. Comes (opened_or_skipped (opened_by (Some base) h) events) (count_at here) r after old new) l.0 l.2 comes in
        let whole : first_board named all ≡ opened_or_skipped (opened_by (Some base) h) l.0 =
        came_is all l.0 l.1 ∙ ap (λ b. cond b (board_from h l.0) (skipped l.0)) is ∙ ap (λ t. opened_or_skipped (opened_by t h) l.0) tariff in
        subst (λ (came : Came). Comes came (count_at start) r after old new) (sym whole) (subst (λ n. Comes (opened_or_skipped (opened_by (Some base) h) l.0) n r after old new) l.3 c))

    -- of a board that has no tariff
    pub no_tariff : (named || begun) ≡ true → h.tariff ≡ None → (old : Option (List ℕ)) → Runs (first_board named) start (Err (failures.Misplaced NoTariff)) here old old
    no_tariff is none old = where_known (left_at start) _ (λ all e.
        let l = known (λ all. Loads (loaded_from nothing_handed false all) (count_at start) (Ok begun) h here) all e loads in
        let whole : first_board named all ≡ opened_or_skipped (opened_by None h) l.0 =
        came_is all l.0 l.1 ∙ ap (λ b. cond b (board_from h l.0) (skipped l.0)) is ∙ ap (λ t. opened_or_skipped (opened_by t h) l.0) none in
        subst (λ (came : Came). Comes came (count_at start) (Err (failures.Misplaced NoTariff)) here old old) (sym whole) (drop 1 l.0, refl, l.4, Appends-nil old))

    -- or of none
    pub none_comes : (named || begun) ≡ false → (r : Result (Option (Vec ℕ Global)) Failure) (after : Place) (old : Option (List ℕ)) → Runs skipped here r after None None → Runs (first_board named) start r after old old
    none_comes is r after old comes = where_known (left_at start) _ (λ all e.
        let l = known (λ all. Loads (loaded_from nothing_handed false all) (count_at start) (Ok begun) h here) all e loads in
        let c = known (λ events. Comes (skipped events) (count_at here) r after None None) l.0 l.2 comes in
        let whole : first_board named all ≡ skipped l.0 = came_is all l.0 l.1 ∙ ap (λ b. cond b (board_from h l.0) (skipped l.0)) is in
        subst (λ (came : Came). Comes came (count_at start) r after old old) (sym whole)
        (behind l.0 (count_at start) after old old old [] (Keeps-refl old) (Appends-nil old) r (subst (λ n. Comes (skipped l.0) n r after None None) l.3 c)))

-- a board is followed by no other where it does not end at a `case` line
came_ends : (named : Bool) (events : List Event) (boards : List Board) (e : End) → (first_board named events).end ≡ e → ((came next : Came) (name : List ℕ) → ended_by e came name next ≡ came) → came_from named events boards ≡ first_board named events
unfolding came_from
came_ends named events [] e at stops = refl
came_ends named events (b ∷ boards) e at stops = ap (λ e. ended_by e (first_board named events) b.name (came_from true b.onward boards)) at ∙ stops (first_board named events) (came_from true b.onward boards) b.name

-- what is recorded of a board comes first
record Begins (whole front : List ℕ) : Type 0 where
  rest : List ℕ
  is : whole ≡ front ++ rest

came_begins : (named : Bool) (events : List Event) (boards : List Board) → Begins (came_from named events boards).written (first_board named events).written
unfolding came_from
came_begins named events [] = record { rest = []; is = sym (append-nil (first_board named events).written) }
came_begins named events (b ∷ boards) = go (first_board named events).end
  where
    next : Came
    next = came_from true b.onward boards

    go : (e : End) → Begins (ended_by e (first_board named events) b.name next).written (first_board named events).written
    go finished = record { rest = []; is = sym (append-nil (first_board named events).written) }
    go (unreadable fault rest) = record { rest = []; is = sym (append-nil (first_board named events).written) }
    go (misplaced fault rest) = record { rest = []; is = sym (append-nil (first_board named events).written) }
    go (next_case n rest) = record { rest = case_record b.name ++ next.written; is = append_assoc (first_board named events).written (case_record b.name) next.written }

-- the next board follows
came_goes : (named : Bool) (events : List Event) (name : List ℕ) (rest : List Event) → (first_board named events).end ≡ next_case name rest
    → came_from named events (boards_in events) ≡ onto ((first_board named events).written ++ case_record name) (came_from true rest (boards_in rest))
unfolding came_from
came_goes named events name rest at =
    ap (λ (boards : List Board). came_from named events boards) ((first_parts named).case events name rest at)
    ∙ ap (λ e. ended_by e (first_board named events) name (came_from true rest (boards_in rest))) at

-- so far, of a whole file
pub record OnFile (all : List Event) (count : ℕ) (named : Bool) (old : Option (List ℕ)) (here : Place) (now : Option (List ℕ)) : Type 0 where
  pub events : List Event
  pub text : List ℕ
  pub left_are : left_at here ≡ Some events
  pub counted : count_at here ≡ count
  pub wrote : Appends old now text
  pub goes_on : came_of_file all ≡ onto text (came_from named events (boards_in events))

pub file_begun : (here : Place) (now : Option (List ℕ)) → IfSome (left_at here) (λ all. OnFile all (count_at here) false now here now)
file_begun here now = where_known (left_at here) _ (λ all e. record { events = all; text = []; left_are = e; counted = refl; wrote = Appends-nil now; goes_on = refl })

module _ (start : Place) (named : Bool) (old : Option (List ℕ)) (here : Place) (now : Option (List ℕ)) (so_far : IfSome (left_at start) (λ all. OnFile all (count_at start) named old here now)) where
  -- the board is the last one
  last_board : (all : List Event) (o : OnFile all (count_at start) named old here now) (e : End) (then : Option (List ℕ)) → (first_board named o.events).end ≡ e → ((came next : Came) (name : List ℕ) → ended_by e came name next ≡ came)
      → Appends now then (first_board named o.events).written → ((came_of_file all).end ≡ e) × Appends old then (came_of_file all).written
  last_board all o e then at stops wrote =
      let whole : came_of_file all ≡ onto o.text (first_board named o.events) = o.goes_on ∙ ap (onto o.text) (came_ends named o.events (boards_in o.events) e at stops) in
      (ap (λ (c : Came). c.end) whole ∙ at, subst (λ (t : List ℕ). Appends old then t) (sym (ap (λ (c : Came). c.written) whole)) (Appends-trans old now then o.text (first_board named o.events).written o.wrote wrote))

  -- a front part of its record was written
  front_of : (all : List Event) (o : OnFile all (count_at start) named old here now) (then : Option (List ℕ)) → AppendsFront now then (first_board named o.events).written → AppendsFront old then (came_of_file all).written
  front_of all o then part =
      let b = came_begins named o.events (boards_in o.events) in
      front_more old now then o.text (first_board named o.events).written b.rest (came_of_file all).written o.wrote (ap (λ (c : Came). c.written) o.goes_on ∙ ap (λ (t : List ℕ). o.text ++ t) b.is) part

  module _ (after : Place) (then : Option (List ℕ)) where
    pub file_ended : Runs (first_board named) here (Ok None) after now then → Replayed start (Ok tt) after old then
    file_ended comes = where_known (left_at start) _ (λ all e.
        let o = known (λ all. OnFile all (count_at start) named old here now) all e so_far in
        let c = known (λ events. Comes (first_board named events) (count_at here) (Ok None) after now then) o.events o.left_are comes in
        let p = last_board all o finished then c.0 (λ came next name. refl) c.1 in
        (p.0, subst (λ (t : List ℕ). Appends old then t) (record_joined all p.0) p.1))

    pub file_failed : (failure : Failure) → Runs (first_board named) here (Err failure) after now then → Replayed start (Err failure) after old then
    file_failed failure comes = where_known (left_at start) _ (λ all e.
        let o = known (λ all. OnFile all (count_at start) named old here now) all e so_far in
        go all o failure (known (λ events. Comes (first_board named events) (count_at here) (Err failure) after now then) o.events o.left_are comes))
      where
        go : (all : List Event) (o : OnFile all (count_at start) named old here now) (failure : Failure) → Comes (first_board named o.events) (count_at here) (Err failure) after now then → Replays all (count_at start) (Err failure) after old then
        go all o failures.Memory c = front_of all o then c
        go all o (failures.Input error) c = front_of all o then c
        go all o failures.Endless c = front_of all o then c
        go all o (failures.Unreadable fault) c =
            let p = last_board all o (unreadable fault c.0) then c.1 (λ came next name. refl) c.3 in
            record { rest = c.0; ends_so = p.0; numbered = c.2 ∙ o.counted; written = p.1 }
        go all o (failures.Misplaced fault) c =
            let p = last_board all o (misplaced fault c.0) then c.1 (λ came next name. refl) c.3 in
            record { rest = c.0; ends_so = p.0; numbered = c.2 ∙ o.counted; written = p.1 }
        go all o (failures.Opening refusal) c = absurd c

    module _ (name : Vec ℕ Global) (comes : Runs (first_board named) here (Ok (Some name)) after now then) where
      -- the next one's name could not be made
      pub file_unnamed : (last : Place) → Replayed start (Err failures.Memory) last old then
      file_unnamed last = where_known (left_at start) _ (λ all e.
          let o = known (λ all. OnFile all (count_at start) named old here now) all e so_far in
          let c = known (λ events. Comes (first_board named events) (count_at here) (Ok (Some name)) after now then) o.events o.left_are comes in
          front_of all o then ((first_board named o.events).written, [], sym (append-nil (first_board named o.events).written), c.4))

      module _ (text : List ℕ) (new : Option (List ℕ)) (is : text ≡ case_record name.items) where
        whole_is : (all : List Event) (o : OnFile all (count_at start) named old here now) (rest : List Event) → (first_board named o.events).end ≡ next_case name.items rest
            → came_of_file all ≡ onto (o.text ++ ((first_board named o.events).written ++ text)) (came_from true rest (boards_in rest))
        whole_is all o rest at =
            let w = (first_board named o.events).written in
            let next = came_from true rest (boards_in rest) in
            o.goes_on ∙ ap (onto o.text) (came_goes named o.events name.items rest at ∙ ap (λ (t : List ℕ). onto (w ++ t) next) (sym is))
            ∙ ap (λ (t : List ℕ). record { written = t; end = next.end }) (sym (append_assoc o.text (w ++ text) next.written))

        -- or was written in part
        pub file_half_named : AppendsFront then new text → IfSome (left_at start) (λ all. AppendsFront old new (came_of_file all).written)
        file_half_named part = where_known (left_at start) _ (λ all e.
            let o = known (λ all. OnFile all (count_at start) named old here now) all e so_far in
            let c = known (λ events. Comes (first_board named events) (count_at here) (Ok (Some name)) after now then) o.events o.left_are comes in
            let w = (first_board named o.events).written in
            let next = (came_from true c.0 (boards_in c.0)).written in
            front_more old then new (o.text ++ w) text next (came_of_file all).written (Appends-trans old now then o.text w o.wrote c.4)
            (ap (λ (c : Came). c.written) (whole_is all o c.0 c.1) ∙ ap (λ (t : List ℕ). t ++ next) (sym (append_assoc o.text w text)) ∙ append_assoc (o.text ++ w) text next) part)

        pub file_further : Appends then new text → IfSome (left_at start) (λ all. OnFile all (count_at start) true old after new)
        file_further wrote = where_known (left_at start) _ (λ all e.
            let o = known (λ all. OnFile all (count_at start) named old here now) all e so_far in
            let c = known (λ events. Comes (first_board named events) (count_at here) (Ok (Some name)) after now then) o.events o.left_are comes in
            let w = (first_board named o.events).written in
            record {
              events = c.0;
              text = o.text ++ (w ++ text);
              left_are = c.2;
              counted = c.3 ∙ o.counted;
              wrote = Appends-trans old now new o.text (w ++ text) o.wrote (Appends-trans now then new w text c.4 wrote);
              goes_on = whole_is all o c.0 c.1;
            })
