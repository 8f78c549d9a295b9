-- The record of a file that ends well is the records of its boards, joined.
use Rattle.std.proofs.Common.{◌≡◌, ℕ, Bool, true, false, List, [], ◌∷◌, ◌++◌, flat_map, refl, sym, ap, ◌∙◌, append_assoc}
use Rattle.std.proofs.lemmas.List.{append-nil}
use Rattle.records.specs.Records.{case_record}
use Rattle.board_replay.specs.Files.{first_board, Board, own_lines, boards_in, board_record, file_record, ended_by, came_from, came_of_file}
use Rattle.board_replay.specs.Replays.{End, finished, next_case, unreadable, misplaced, Came}
use Rattle.board_replay.specs.Streams.{Event}
use Rattle.board_replay.proofs.Parting.{first_parts}

joined : (boards : List Board) (named : Bool) (events : List Event) → boards_in events ≡ boards → (came_from named events boards).end ≡ finished
    → (came_from named events boards).written ≡ (first_board named (own_lines events)).written ++ flat_map board_record boards
unfolding came_from
joined [] named events is e = (first_parts named).own events ∙ sym (append-nil (first_board named (own_lines events)).written)
joined (b ∷ boards) named events is e = go (λ more done. joined boards true b.onward more done) (first_board named events).end refl e
  where
    next : Came
    next = came_from true b.onward boards

    go : (boards_in b.onward ≡ boards → (came_from true b.onward boards).end ≡ finished → (came_from true b.onward boards).written ≡ (first_board true (own_lines b.onward)).written ++ flat_map board_record boards)
        → (end : End) → (first_board named events).end ≡ end → (ended_by end (first_board named events) b.name next).end ≡ finished
        → (ended_by end (first_board named events) b.name next).written ≡ (first_board named (own_lines events)).written ++ (board_record b ++ flat_map board_record boards)
    go ih finished at e =
        let none : boards_in events ≡ [] = (first_parts named).finishes events at in
        let both : b ∷ boards ≡ [] = sym is ∙ none in
        cc
    go ih (unreadable fault rest) at e = let both : unreadable fault rest ≡ finished = sym at ∙ e in cc
    go ih (misplaced fault rest) at e = let both : misplaced fault rest ≡ finished = sym at ∙ e in cc
    go ih (next_case name rest) at e =
        let both : b ∷ boards ≡ record { name = name; onward = rest } ∷ boards_in rest = sym is ∙ (first_parts named).case events name rest at in
        let this : b ≡ record { name = name; onward = rest } = cc in
        let those : boards ≡ boards_in rest = cc in
        let more : boards_in b.onward ≡ boards = ap (λ (x : Board). boards_in x.onward) this ∙ sym those in
        let later = ih more e in
        let own = (first_parts named).own events in
        let w = (first_board named (own_lines events)).written in
        let v = (first_board true (own_lines b.onward)).written in
        ap (λ (x : List ℕ). (x ++ case_record b.name) ++ next.written) own ∙ ap (λ (x : List ℕ). (w ++ case_record b.name) ++ x) later
        ∙ append_assoc w (case_record b.name) (v ++ flat_map board_record boards)
        ∙ ap (λ (x : List ℕ). w ++ x) (sym (append_assoc (case_record b.name) v (flat_map board_record boards)))

pub record_joined : (events : List Event) → (came_of_file events).end ≡ finished → (came_of_file events).written ≡ file_record events
record_joined events e = joined (boards_in events) false events refl e
