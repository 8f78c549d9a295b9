-- The hops of a timetable as one maker or the other holds it, and that they keep the rule. (The proof stands here, since an impl
-- cites it.)
-- Assumes nothing.
use Rattle.std.specs.Prelude.{◌≡◌, true, List}
use Rattle.short_list.specs.Items.{items}
use Rattle.timetable.specs.declared.hops.Hop.{Hop}
use Rattle.timetable.specs.declared.maker_timetable.MakerTimetable.{MakerTimetable}
use Rattle.timetable.specs.declared.maker_timetable.MakerTimetable.TheVariants.{HopList, IntervalLine}
use Rattle.timetable.specs.LineFacts.{allowed_keeps}
use Rattle.timetable.specs.LineHops.{hops_of}
use Rattle.timetable.specs.Rule.{keeps}

-- the list that it means
abbrev pub maker_hops : MakerTimetable → List Hop
maker_hops (HopList l) = l.hops.now
maker_hops (IntervalLine l) = hops_of l

-- it keeps the timetable rule
pub maker_rule : (t : MakerTimetable) → keeps (maker_hops t) ≡ true
maker_rule (HopList l) = l.kept
maker_rule (IntervalLine l) = allowed_keeps (items l.pattern) l.interval l.trips l.allowed
