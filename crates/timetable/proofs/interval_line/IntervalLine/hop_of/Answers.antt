use Rattle.std.proofs.Common.{get_or, Some, ap, ◌∙◌, arith}
use Rattle.short_list.specs.Items.{items}
use Rattle.timetable.specs.Line.{shifted}
use Rattle.timetable.proofs.Lines.{in_day, forward, hop_is}
use Rattle.timetable.proofs.Places.{blank}
use Rattle.timetable.proofs.interval_line.IntervalLine.hop_of.Goals as goal

pub shifted-requires : goal.shifted-requires
shifted-requires c =
    let l = c.args.self.now in
    let early = in_day (items l.pattern) l.interval l.trips l.allowed c.args.trip c.args.column c.requires.trip c.requires.column blank in
    let ahead = forward (items l.pattern) l.interval l.trips l.allowed c.args.trip c.args.column c.requires.trip c.requires.column blank in
    record { departs = rw c.as_slice.ensures (omega arith); arrives = rw c.as_slice.ensures (omega arith) }

pub returns : goal.returns
returns c place trip-is column-is =
    let l = c.args.self.now in
    ap Some (c.shifted.ensures ∙ ap (λ hs. shifted c.args.trip c.later.result (get_or hs c.args.column blank)) c.as_slice.ensures
    ∙ ap (λ s. shifted c.args.trip s (get_or (items l.pattern) c.args.column blank)) c.later.ensures)
    ∙ hop_is (items l.pattern) l.interval l.trips l.allowed c.args.trip c.args.column c.requires.trip c.requires.column blank place trip-is column-is
