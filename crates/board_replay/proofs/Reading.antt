-- Reading the next line, where the text that is left is known.
use Rattle.std.proofs.Common.{◌≡◌, ℕ, ◌<◌, true, false, List, [], ◌∷◌, length, map, Option, Some, None, IfSome, Ok, refl, sym, ap, ◌∙◌, subst, arith}
use Rattle.std.specs.Io.BufRead.{take_through, drop_through, strip_last, DropsThrough}
use Rattle.std.specs.Io.KnownBytes.{IsAtEnd}
use Rattle.case_lines.specs.declared.line.Line.{Line}
use Rattle.case_lines.specs.Reading.{seen, line_of}
use Rattle.board_replay.specs.Streams.{Event, lines_in, said_in, left_in, Gets, Reads}
use Rattle.board_replay.proofs.NextLine.{first_line_is}

pub was_read : (o new : Option (List ℕ)) (items line : List ℕ) → IfSome o (λ text. items ≡ take_through 10 text) → DropsThrough o new 10 → 0 < length items → line ≡ strip_last 10 items
    → IfSome o (λ text. Reads text (Ok true) line new)
was_read None new items line taken rest some is = tt
was_read (Some []) new items line taken rest some is =
    let none : length items ≡ 0 = ap length taken in
    absurd (omega (arith, none, some))
was_read (Some (b ∷ text)) new items line taken rest some is =
    (drop_through 10 (b ∷ text), first_line_is b text ∙ ap (λ l. l ∷ lines_in (drop_through 10 (b ∷ text))) (sym (is ∙ ap (strip_last 10) taken)), rest)

pub none_read : (o new : Option (List ℕ)) (line : List ℕ) → DropsThrough o new 10 → IsAtEnd o → IfSome o (λ text. Reads text (Ok false) line new)
none_read None new line rest end = tt
none_read (Some text) new line rest end = (end, rest ∙ ap (λ xs. Some (drop_through 10 xs)) end)

-- nothing was put back
module _ (kept after : Option Line) (none : kept ≡ None) (still : after ≡ None) (o new : Option (List ℕ)) (line : List ℕ) where
  pub no_more : IfSome o (λ text. Reads text (Ok false) line new) → IfSome (left_in kept o) (λ events. Gets events (Ok None) (left_in after new))
  unfolding lines_in
  no_more h = subst (λ k. IfSome (left_in k o) (λ events. Gets events (Ok None) (left_in after new))) (sym none) (subst (λ a. IfSome (left_in None o) (λ events. Gets events (Ok None) (left_in a new))) (sym still) (go o h))
    where
      go : (o : Option (List ℕ)) → IfSome o (λ text. Reads text (Ok false) line new) → IfSome (left_in None o) (λ events. Gets events (Ok None) (left_in None new))
      go None h = tt
      go (Some text) h = rw (h.0, h.1) (refl, refl)

  pub one_more : (l : Line) → line_of line ≡ Ok (seen l) → IfSome o (λ text. Reads text (Ok true) line new) → IfSome (left_in kept o) (λ events. Gets events (Ok (Some l)) (left_in after new))
  one_more l says h = subst (λ k. IfSome (left_in k o) (λ events. Gets events (Ok (Some l)) (left_in after new))) (sym none) (subst (λ a. IfSome (left_in None o) (λ events. Gets events (Ok (Some l)) (left_in a new))) (sym still) (go o h))
    where
      go : (o : Option (List ℕ)) → IfSome o (λ text. Reads text (Ok true) line new) → IfSome (left_in None o) (λ events. Gets events (Ok (Some l)) (left_in None new))
      go None h = tt
      go (Some text) h = (said_in h.0, ap (map line_of) h.1 ∙ ap (λ (event : Event). event ∷ said_in h.0) says, ap (left_in None) h.2)
