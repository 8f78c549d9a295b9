use Rattle.std.proofs.Common.{length}
use Rattle.sheet.proofs.Causes.{no_room}
use Rattle.sheet.proofs.reading.read.Goals as goal

pub returns-then-rows-lt-MOST_ROWS-clause-meaning : goal.returns-then-rows-lt-MOST_ROWS-clause-meaning
returns-then-rows-lt-MOST_ROWS-clause-meaning c = no_room c.args.sheet.now (length c.args.rows.now) c.if-rows-lt-MOST_ROWS.true
