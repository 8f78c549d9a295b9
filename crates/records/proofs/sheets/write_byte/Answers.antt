use Rattle.std.proofs.Common.{false, rules, arith}
use Rattle.std.proofs.lemmas.Fmt.{hex_byte}
use Rattle.records.proofs.sheets.write_byte.Goals as goal

pub returns : goal.returns
returns c = search (rules, hex_byte false c.args.byte (omega arith))
