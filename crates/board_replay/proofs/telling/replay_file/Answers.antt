use Rattle.std.proofs.Common.{◌≡◌, ℕ, List, Option, subst}
use Rattle.std.specs.Io.Buffered.{writer_contents}
use Rattle.board_replay.specs.Endings.{Reports, at_first}
use Rattle.board_replay.specs.Files.{Replayed}
use Rattle.board_replay.specs.Streams.{Place, place}
use Rattle.board_replay.proofs.telling.replay_file.Goals as goal

pub returns : goal.returns
returns g c =
    let ended = c.replay_through-ended.result in
    let after = place g.R.Read.remaining c.replay_through-ended.new.lines in
    let told = c.new-lines.ensures in
    let start : place g.R.Read.remaining c.new-lines.result ≡ at_first (g.R.Read.remaining c.args.reader) =
    λ v. record { number = told.number v; kept = told.kept v; unread = g.R.Read.remaining (told.reader v) } in
    record {
      ended = ended;
      after = after;
      replayed = subst (λ p. Replayed p ended after (writer_contents g.W.Write.contents c.args.out.now) (writer_contents g.W.Write.contents c.replay_through-ended.new.out)) start c.replay_through-ended.ensures.recorded;
      endless = c.replay_through-ended.ensures.endless;
      through = c.replay_through-ended.ensures.through;
      reported = subst (λ n. Reports ended n c.report.result (g.E.Write.contents c.args.err.now) (g.E.Write.contents c.report.new.err)) c.number.ensures c.report.ensures;
    }
