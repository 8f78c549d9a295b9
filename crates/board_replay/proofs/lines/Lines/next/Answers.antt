use Rattle.std.proofs.Common.{IfSome, Ok, Bool, ap, sym, ◌∙◌, subst}
use Rattle.case_lines.specs.Reading.{line_of}
use Rattle.board_replay.specs.Streams.{Reads}
use Rattle.board_replay.proofs.Reading.{no_more, one_more}
use Rattle.board_replay.proofs.lines.Lines.next.Goals as goal

pub returns-then-not-branch-clause-events : goal.returns-then-not-branch-clause-events
returns-then-not-branch-clause-events g c =
    no_more _ _ (sym c.take.ensures.value ∙ c.in_default.is) (c.in_ok-read.ensures.kept ∙ c.take.ensures.after) _ _ c.read.new.self.text.items
    (subst (λ (b : Bool). IfSome (g.R.Read.remaining c.args.self.now.reader) (λ text. Reads text (Ok b) c.read.new.self.text.items (g.R.Read.remaining c.read.new.self.reader))) c.if-not-branch.true c.in_ok-read.ensures.line)

pub returns-clause-events : goal.returns-clause-events
returns-clause-events g c =
    one_more _ _ (sym c.take.ensures.value ∙ c.in_default.is) (c.in_ok-read.ensures.kept ∙ c.take.ensures.after) _ _ c.read.new.self.text.items c.in_ok-read_line.field-0
    (sym (ap line_of c.deref.ensures.value) ∙ c.in_ok-read_line.ensures.said)
    (subst (λ (b : Bool). IfSome (g.R.Read.remaining c.args.self.now.reader) (λ text. Reads text (Ok b) c.read.new.self.text.items (g.R.Read.remaining c.read.new.self.reader))) c.if-not-branch.false c.in_ok-read.ensures.line)
