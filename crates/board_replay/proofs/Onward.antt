-- Going on line by line: what was recorded so far, and then what comes of the lines left, is what comes of all lines.
use Rattle.std.proofs.Common.{◌≡◌, ℕ, List, [], ◌∷◌, ◌++◌, Option, Some, None, IfSome, Ok, Err, Vec, Global, refl, sym, ap, ◌∙◌, subst, append_assoc}
use Rattle.std.proofs.lemmas.List.{append-nil}
use Rattle.std.proofs.KnownBytes.{Appends-nil, Appends-trans}
use Rattle.std.specs.Io.KnownBytes.{Appends}
use Rattle.case_lines.specs.declared.fault.Fault.{Fault as LineFault}
use Rattle.case_lines.specs.declared.line.Line.{Line}
use Rattle.case_lines.specs.Reading.{seen}
use Rattle.board_replay.specs.declared.failure.Failure.{Failure}
use Rattle.board_replay.specs.declared.failure.Failure.TheVariants as failures
use Rattle.board_replay.specs.declared.fault.Fault.{Fault}
use Rattle.board_replay.specs.Streams.{Event, Gets, Place, left_at, next_at, count_at, StandsBefore, Numbers}
use Rattle.board_replay.specs.Replays.{End, finished, next_case, unreadable, misplaced, Came, ends, onto, wrong, turn_of, Enters, Comes}
use Rattle.board_replay.specs.Writes.{AppendsFront}
use Rattle.board_replay.proofs.Counting.{stands_before, count_stays}
use Rattle.board_replay.proofs.Known.{where_known, known}

-- a text was written, and then a front part of the next one
pub front_more : (a b c : Option (List ℕ)) (xs ys zs whole : List ℕ) → Appends a b xs → whole ≡ xs ++ (ys ++ zs) → AppendsFront b c ys → AppendsFront a c whole
front_more a b c xs ys zs whole wrote is part =
    (xs ++ part.0, part.1 ++ zs, is ∙ ap (λ l. xs ++ (l ++ zs)) part.2 ∙ ap (λ l. xs ++ l) (append_assoc part.0 part.1 zs) ∙ sym (append_assoc xs part.0 (part.1 ++ zs)), Appends-trans a b c xs part.0 wrote part.3)

-- so far, of all lines
pub record Onward (all : List Event) (count : ℕ) (came0 : List Event → Came) (old : Option (List ℕ)) (here : Place) (came : List Event → Came) (now : Option (List ℕ)) : Type 0 where
  pub events : List Event
  pub written : List ℕ
  pub left_are : left_at here ≡ Some events
  pub counted : count_at here ≡ count
  pub wrote : Appends old now written
  pub goes_on : came0 all ≡ onto written (came events)

module _ (start : Place) (came0 : List Event → Came) (old : Option (List ℕ)) (here : Place) (came : List Event → Came) (now : Option (List ℕ)) (so_far : IfSome (left_at start) (λ all. Onward all (count_at start) came0 old here came now)) where
  -- the lines left end here
  ended : (all : List Event) (o : Onward all (count_at start) came0 old here came now) (e : End) → came o.events ≡ ends e → ((came0 all).end ≡ e) × Appends old now (came0 all).written
  ended all o e is =
      let one : came0 all ≡ record { written = o.written ++ []; end = e } = o.goes_on ∙ ap (onto o.written) is in
      (ap (λ (c : Came). c.end) one, subst (λ text. Appends old now text) (sym (ap (λ (c : Came). c.written) one ∙ append-nil o.written)) o.wrote)

  -- what was written so far is a front part
  front : (all : List Event) (o : Onward all (count_at start) came0 old here came now) → AppendsFront old now (came0 all).written
  front all o = (o.written, (came o.events).written, ap (λ (c : Came). c.written) o.goes_on, o.wrote)

  module _ (new : Place) where
    before_rest : (all : List Event) (o : Onward all (count_at start) came0 old here came now) (event : Event) (rest : List Event) → o.events ≡ event ∷ rest → new.number ≡ next_at here → StandsBefore new rest (count_at start)
    before_rest all o event rest is next = stands_before here new o.events rest event o.left_are is next ∙ o.counted

    pub at_end : IfSome (left_at here) (λ events. Gets events (Ok None) (left_at new)) → came [] ≡ ends finished → IfSome (left_at start) (λ all. Comes (came0 all) (count_at start) (Ok None) new old now)
    at_end gets is = where_known (left_at start) _ (λ all e.
        let o = known (λ all. Onward all (count_at start) came0 old here came now) all e so_far in
        let g = known (λ events. Gets events (Ok None) (left_at new)) o.events o.left_are gets in
        ended all o finished (ap came g.0 ∙ is))

    -- a line that was not read
    pub at_failure : (failure : Failure) → IfSome (left_at here) (λ events. Gets events (Err failure) (left_at new)) → Numbers here (Err failure) new → ((fault : LineFault) (rest : List Event) → came (Err fault ∷ rest) ≡ ends (unreadable fault rest))
        → IfSome (left_at start) (λ all. Comes (came0 all) (count_at start) (Err failure) new old now)
    at_failure failure gets numbers is = where_known (left_at start) _ (λ all e.
        let o = known (λ all. Onward all (count_at start) came0 old here came now) all e so_far in
        go all o failure (known (λ events. Gets events (Err failure) (left_at new)) o.events o.left_are gets) numbers)
      where
        go : (all : List Event) (o : Onward all (count_at start) came0 old here came now) (failure : Failure) → Gets o.events (Err failure) (left_at new) → Numbers here (Err failure) new → Comes (came0 all) (count_at start) (Err failure) new old now
        go all o failures.Memory g n = front all o
        go all o (failures.Input error) g n = front all o
        go all o failures.Endless g n = front all o
        go all o (failures.Unreadable fault) g n =
            let e = ended all o (unreadable fault g.0) (ap came g.1 ∙ is fault g.0) in
            (g.0, e.0, before_rest all o (Err fault) g.0 g.1 n, e.1)
        go all o (failures.Misplaced fault) g n = absurd g
        go all o (failures.Opening refusal) g n = absurd g

    module _ (line : Line) (gets : IfSome (left_at here) (λ events. Gets events (Ok (Some line)) (left_at new))) (next : new.number ≡ next_at here) where
      pub at_case : (name : Vec ℕ Global) → new.kept ≡ None → ((rest : List Event) → came (Ok (seen line) ∷ rest) ≡ ends (next_case name.items rest))
          → IfSome (left_at start) (λ all. Comes (came0 all) (count_at start) (Ok (Some name)) new old now)
      at_case name none is = where_known (left_at start) _ (λ all e.
          let o = known (λ all. Onward all (count_at start) came0 old here came now) all e so_far in
          let g = known (λ events. Gets events (Ok (Some line)) (left_at new)) o.events o.left_are gets in
          let p = ended all o (next_case name.items g.0) (ap came g.1 ∙ is g.0) in
          (g.0, p.0, g.2, count_stays here new o.events g.0 (Ok (seen line)) o.left_are g.1 next none g.2 ∙ o.counted, p.1))

      pub at_fault : (fault : Fault) → ((rest : List Event) → came (Ok (seen line) ∷ rest) ≡ ends (misplaced fault rest)) → IfSome (left_at start) (λ all. Comes (came0 all) (count_at start) (Err (failures.Misplaced fault)) new old now)
      at_fault fault is = where_known (left_at start) _ (λ all e.
          let o = known (λ all. Onward all (count_at start) came0 old here came now) all e so_far in
          let g = known (λ events. Gets events (Ok (Some line)) (left_at new)) o.events o.left_are gets in
          let p = ended all o (misplaced fault g.0) (ap came g.1 ∙ is g.0) in
          (g.0, p.0, before_rest all o (Ok (seen line)) g.0 g.1 next, p.1))

      -- a line that was not entered
      pub at_refusal : (failure : Failure) → ((fault : Fault) → turn_of (seen line) ≡ wrong fault → (rest : List Event) → came (Ok (seen line) ∷ rest) ≡ ends (misplaced fault rest))
          → Enters (turn_of (seen line)) (Err failure) → IfSome (left_at start) (λ all. Comes (came0 all) (count_at start) (Err failure) new old now)
      at_refusal failures.Memory is h = where_known (left_at start) _ (λ all e. front all (known (λ all. Onward all (count_at start) came0 old here came now) all e so_far))
      at_refusal (failures.Misplaced fault) is h = at_fault fault (is fault h)
      at_refusal (failures.Input error) is h = absurd h
      at_refusal (failures.Unreadable fault) is h = absurd h
      at_refusal (failures.Opening refusal) is h = absurd h
      at_refusal failures.Endless is h = absurd h

      module _ (text : List ℕ) (came' : List Event → Came) (now' : Option (List ℕ)) (is : (rest : List Event) → came (Ok (seen line) ∷ rest) ≡ onto text (came' rest)) where
        -- a line more
        pub goes_further : new.kept ≡ None → Appends now now' text → IfSome (left_at start) (λ all. Onward all (count_at start) came0 old new came' now')
        goes_further none wrote = where_known (left_at start) _ (λ all e.
            let o = known (λ all. Onward all (count_at start) came0 old here came now) all e so_far in
            let g = known (λ events. Gets events (Ok (Some line)) (left_at new)) o.events o.left_are gets in
            record {
              events = g.0;
              written = o.written ++ text;
              left_are = g.2;
              counted = count_stays here new o.events g.0 (Ok (seen line)) o.left_are g.1 next none g.2 ∙ o.counted;
              wrote = Appends-trans old now now' o.written text o.wrote wrote;
              goes_on = o.goes_on ∙ ap (onto o.written) (ap came g.1 ∙ is g.0) ∙ ap (λ xs. record { written = xs; end = (came' g.0).end }) (sym (append_assoc o.written text (came' g.0).written));
            })

        -- a line whose record was written in part
        pub at_failed_write : AppendsFront now now' text → IfSome (left_at start) (λ all. AppendsFront old now' (came0 all).written)
        at_failed_write part = where_known (left_at start) _ (λ all e.
            let o = known (λ all. Onward all (count_at start) came0 old here came now) all e so_far in
            let g = known (λ events. Gets events (Ok (Some line)) (left_at new)) o.events o.left_are gets in
            front_more old now now' o.written text (came' g.0).written (came0 all).written o.wrote
            (ap (λ (c : Came). c.written) (o.goes_on ∙ ap (onto o.written) (ap came g.1 ∙ is g.0))) part)

-- which line it was
pub gets_as : (left new : Option (List Event)) {r s : Option Line} → r ≡ s → IfSome left (λ events. Gets events (Ok r) new) → IfSome left (λ events. Gets events (Ok s) new)
gets_as left new e h = subst (λ r. IfSome left (λ events. Gets events (Ok r) new)) e h

-- which number it has
pub numbers_as : (before after : Place) {r s : Option Line} → r ≡ s → Numbers before (Ok r) after → Numbers before (Ok s) after
numbers_as before after e h = subst (λ (r : Option Line). Numbers before (Ok r) after) e h

-- nothing was read yet
pub begun : (here : Place) (came : List Event → Came) (now : Option (List ℕ)) → IfSome (left_at here) (λ all. Onward all (count_at here) came now here came now)
begun here came now = where_known (left_at here) _ (λ all e. record { events = all; written = []; left_are = e; counted = refl; wrote = Appends-nil now; goes_on = refl })
