use Rattle.std.proofs.Common.{◌∙◌}
use Rattle.case_lines.specs.Told.{fault_told as line_told}
use Rattle.board_replay.specs.Told.{fault_told}
use Rattle.board_replay.proofs.ToldLines.{written_on, told_plainly, named}
use Rattle.board_replay.proofs.telling.told.Goals as goal

pub returns-in_ok-writeln-in-Unreadable : goal.returns-in_ok-writeln-in-Unreadable
returns-in_ok-writeln-in-Unreadable c = rw c.in-Unreadable.is (written_on c.new-line.result _ c.writeln.new.self c.in_ok-writeln-in-Unreadable.ensures.writes c.new-line.ensures.intact c.new-line.ensures.text ∙ named c.args.number (line_told c.in-Unreadable.fault))

pub returns-in_ok-writeln-in-Misplaced : goal.returns-in_ok-writeln-in-Misplaced
returns-in_ok-writeln-in-Misplaced c = rw c.in-Misplaced.is (written_on c.new-line.result _ c.writeln-in-Misplaced.new.self c.in_ok-writeln-in-Misplaced.ensures.writes c.new-line.ensures.intact c.new-line.ensures.text ∙ named c.args.number (fault_told c.in-Misplaced.fault))

pub returns-in_ok-writeln-in-Memory : goal.returns-in_ok-writeln-in-Memory
returns-in_ok-writeln-in-Memory c = told_plainly c.args.failure c.args.number c.new-line.result c.writeln-in-Memory.new.self c.in-Memory.is c.in_ok-writeln-in-Memory.ensures.writes c.new-line.ensures.intact c.new-line.ensures.text

pub returns-in_ok-writeln-in-Input : goal.returns-in_ok-writeln-in-Input
returns-in_ok-writeln-in-Input c = rw c.in-Input.is (_, written_on c.new-line.result _ c.writeln-in-Input.new.self c.in_ok-writeln-in-Input.ensures.writes c.new-line.ensures.intact c.new-line.ensures.text)

pub returns-in_ok-writeln-in-Opening : goal.returns-in_ok-writeln-in-Opening
returns-in_ok-writeln-in-Opening c = rw c.in-Opening.is (_, written_on c.new-line.result _ c.writeln-in-Opening.new.self c.in_ok-writeln-in-Opening.ensures.writes c.new-line.ensures.intact c.new-line.ensures.text)
