use Rattle.std.proofs.Common.{◌≡◌, ◌++◌, IfSome, List, ℕ, subst, arith}
use Rattle.std.specs.Io.BufRead.{take_through}
use Rattle.board_replay.proofs.Reading.{was_read}
use Rattle.board_replay.proofs.lines.Lines.read.Goals as goal

pub returns-clause-line : goal.returns-clause-line
returns-clause-line g c =
    was_read _ _ c.read_until.new.buf.items _
    (subst (λ (old : List ℕ). IfSome (g.R.Read.remaining c.args.self.now.reader) (λ text. c.read_until.new.buf.items ≡ old ++ take_through 10 text)) c.clear.ensures.items c.in_ok-read_until.ensures.bytes)
    c.in_ok-read_until.ensures.rest
    (omega (arith, c.in_ok-read_until.ensures.ok, c.if-branch-eq0.false, c.read_until.new.buf.ok.0))
    c.strip.ensures
