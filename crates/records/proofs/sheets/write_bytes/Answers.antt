use Rattle.std.proofs.Common.{◌∙◌, arith}
use Rattle.records.proofs.Joining.{all_written}
use Rattle.records.proofs.sheets.write_bytes.Goals as goal

pub returns : goal.returns
returns c = c.loop-byte.invariant ∙ all_written c.args.out.now.items c.args.bytes.now c.loop-byte.byte-index (omega arith) c.loop-byte-test.false
