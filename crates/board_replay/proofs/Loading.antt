-- Loading a board line by line: what all lines come to is what the lines left do, with what was handed in so far.
use Rattle.std.proofs.Common.{◌≡◌, ℕ, ◌+◌, Bool, false, ◌||◌, List, [], ◌∷◌, length, Option, Some, None, IfSome, Ok, Err, refl, sym, ap, ◌∙◌}
use Rattle.case_lines.specs.declared.line.Line.{Line}
use Rattle.case_lines.specs.Reading.{Said, seen}
use Rattle.board_replay.specs.declared.failure.Failure.{Failure}
use Rattle.board_replay.specs.declared.failure.Failure.TheVariants as failures
use Rattle.board_replay.specs.Files.{Load, stops_at, is_logged, loaded_from, TakesLine, Loads}
use Rattle.board_replay.specs.Loading.{Handed}
use Rattle.board_replay.specs.Streams.{Event, said_in, left_in, count_from, Gets, Place, left_at, next_at, count_at, StandsBefore, Numbers}
use Rattle.board_replay.proofs.Counting.{stands_before, count_stays, count_at_end, stands_at_end}
use Rattle.board_replay.proofs.Known.{where_known, known}

-- a line that can be read
abbrev pub readable : Said → Event
readable said = Ok said

-- so far
pub record OnLoad (total : Load) (count : ℕ) (here : Place) (h : Handed) (begun : Bool) : Type 0 where
  pub events : List Event
  pub left_are : left_at here ≡ Some events
  pub counted : count_at here ≡ count
  pub goes_on : total ≡ loaded_from h begun events

pub load_begun : (here : Place) (h : Handed) → IfSome (left_at here) (λ all. OnLoad (loaded_from h false all) (count_at here) here h false)
load_begun here h = where_known (left_at here) _ (λ all e. record { events = all; left_are = e; counted = refl; goes_on = refl })

-- a line that is put back is the next one again
put_back_is : (kept after : Option Line) (o : Option (List ℕ)) (line : Line) (rest : List Event) → kept ≡ None → left_in kept o ≡ Some rest → after ≡ Some line → left_in after o ≡ Some (Ok (seen line) ∷ rest)
put_back_is kept after None line rest none e is = let e = sym (ap (λ k. left_in k None) none) ∙ e in cc
put_back_is kept after (Some text) line rest none e is =
    let same : said_in text ≡ rest = let f = sym (ap (λ k. left_in k (Some text)) none) ∙ e in cc in
    ap (λ k. left_in k (Some text)) is ∙ ap (λ (events : List Event). Some (Ok (seen line) ∷ events)) same

module _ (start : Place) (total : List Event → Load) (here : Place) (h : Handed) (begun : Bool) (so_far : IfSome (left_at start) (λ all. OnLoad (total all) (count_at start) here h begun)) (new : Place) where
  pub load_ended : IfSome (left_at here) (λ events. Gets events (Ok None) (left_at new)) → new.number ≡ here.number → new.kept ≡ None → IfSome (left_at start) (λ all. Loads (total all) (count_at start) (Ok begun) h new)
  unfolding loaded_from
  load_ended gets same none = where_known (left_at start) _ (λ all e.
      let o = known (λ all. OnLoad (total all) (count_at start) here h begun) all e so_far in
      let g = known (λ events. Gets events (Ok None) (left_at new)) o.events o.left_are gets in
      let counted = count_at_end here new (o.left_are ∙ ap (λ (es : List Event). Some es) g.0) same none g.1 ∙ o.counted in
      ([], o.goes_on ∙ ap (loaded_from h begun) g.0, g.1, counted, stands_at_end new none g.1 ∙ counted))

  pub load_failed : (failure : Failure) (h' : Handed) → IfSome (left_at here) (λ events. Gets events (Err failure) (left_at new)) → Numbers here (Err failure) new → IfSome (left_at start) (λ all. Loads (total all) (count_at start) (Err failure) h' new)
  unfolding loaded_from
  load_failed failure h' gets numbers = where_known (left_at start) _ (λ all e.
      let o = known (λ all. OnLoad (total all) (count_at start) here h begun) all e so_far in
      go (total all) o failure (known (λ events. Gets events (Err failure) (left_at new)) o.events o.left_are gets) numbers)
    where
      go : (l : Load) (o : OnLoad l (count_at start) here h begun) (failure : Failure) → Gets o.events (Err failure) (left_at new) → Numbers here (Err failure) new → Loads l (count_at start) (Err failure) h' new
      go l o failures.Memory g n = tt
      go l o (failures.Input error) g n = tt
      go l o (failures.Unreadable fault) g n = (g.0, o.goes_on ∙ ap (loaded_from h begun) g.1, stands_before here new o.events g.0 (Err fault) o.left_are g.1 n ∙ o.counted)
      go l o (failures.Misplaced fault) g n = absurd g
      go l o (failures.Opening refusal) g n = absurd g
      go l o failures.Endless g n = tt

  module _ (line : Line) (gets : IfSome (left_at here) (λ events. Gets events (Ok (Some line)) (left_at new))) (next : new.number ≡ next_at here) where
    pub load_refused : (failure : Failure) (h' : Handed) → TakesLine (seen line) h (Err failure) h' → IfSome (left_at start) (λ all. Loads (total all) (count_at start) (Err failure) h' new)
    load_refused failure h' takes = where_known (left_at start) _ (λ all e.
        let o = known (λ all. OnLoad (total all) (count_at start) here h begun) all e so_far in
        let g = known (λ events. Gets events (Ok (Some line)) (left_at new)) o.events o.left_are gets in
        go (total all) g.0 (o.goes_on ∙ ap (loaded_from h begun) g.1) (stands_before here new o.events g.0 (Ok (seen line)) o.left_are g.1 next ∙ o.counted) failure takes)
      where
        go : (l : Load) (rest : List Event) → l ≡ loaded_from h begun (Ok (seen line) ∷ rest) → StandsBefore new rest (count_at start) → (failure : Failure) → TakesLine (seen line) h (Err failure) h' → Loads l (count_at start) (Err failure) h' new
        go l rest is stands failures.Memory t = tt
        go l rest is stands (failures.Misplaced fault) t = (rest, is ∙ t begun rest, stands)
        go l rest is stands (failures.Input error) t = absurd t
        go l rest is stands (failures.Unreadable fault) t = absurd t
        go l rest is stands (failures.Opening refusal) t = absurd t
        go l rest is stands failures.Endless t = absurd t

    module _ (none : new.kept ≡ None) where
      pub load_further : (h' : Handed) (begun' : Bool) → ((events : List Event) → loaded_from h begun (Ok (seen line) ∷ events) ≡ loaded_from h' begun' events) → IfSome (left_at start) (λ all. OnLoad (total all) (count_at start) new h' begun')
      load_further h' begun' is = where_known (left_at start) _ (λ all e.
          let o = known (λ all. OnLoad (total all) (count_at start) here h begun) all e so_far in
          let g = known (λ events. Gets events (Ok (Some line)) (left_at new)) o.events o.left_are gets in
          record { events = g.0; left_are = g.2; counted = count_stays here new o.events g.0 (Ok (seen line)) o.left_are g.1 next none g.2 ∙ o.counted; goes_on = o.goes_on ∙ ap (loaded_from h begun) g.1 ∙ is g.0 })

      -- the line is put back
      pub load_stopped : (h' : Handed) (begun' : Bool) (after : Place) (back : Line) → h' ≡ h → begun' ≡ (begun || is_logged (seen line))
          → ((events : List Event) → loaded_from h begun (Ok (seen line) ∷ events) ≡ stops_at h (begun || is_logged (seen line)) (Ok (seen line) ∷ events))
          → seen back ≡ seen line → after.kept ≡ Some back → after.unread ≡ new.unread → after.number ≡ new.number → IfSome (left_at start) (λ all. Loads (total all) (count_at start) (Ok begun') h' after)
      load_stopped h' begun' after back same begun_is is same_line kept_is unread_is number_is = where_known (left_at start) _ (λ all e.
          let o = known (λ all. OnLoad (total all) (count_at start) here h begun) all e so_far in
          let g = known (λ events. Gets events (Ok (Some line)) (left_at new)) o.events o.left_are gets in
          let left : left_at after ≡ Some (Ok (seen line) ∷ g.0) =
          ap (λ u. left_in after.kept u) unread_is ∙ put_back_is new.kept after.kept new.unread back g.0 none g.2 kept_is ∙ ap (λ (said : Said). Some (readable said ∷ g.0)) same_line in
          let counted : count_at after ≡ count_at start =
          ap (λ u. count_from after.number u) unread_is ∙ ap (λ n. count_from n new.unread) number_is ∙ count_stays here new o.events g.0 (Ok (seen line)) o.left_are g.1 next none g.2 ∙ o.counted in
          (Ok (seen line) ∷ g.0, o.goes_on ∙ ap (loaded_from h begun) g.1 ∙ is g.0 ∙ (λ i. stops_at (sym same i) (sym begun_is i) (Ok (seen line) ∷ g.0)), left, counted, ap (λ n. n + length g.0) number_is ∙ stands_before here new o.events g.0 (Ok (seen line)) o.left_are g.1 next ∙ o.counted))
