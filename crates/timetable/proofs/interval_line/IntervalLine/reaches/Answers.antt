use Rattle.std.proofs.Common.{◌≡◌, ℕ, Bool, true, false, ltb, length, refl, arith}
use Rattle.short_list.specs.Items.{items}
use Rattle.std.proofs.lemmas.Bool.{ltb-true, ltb-false}
use Rattle.timetable.specs.declared.interval_line.IntervalLine.{IntervalLine}
use Rattle.timetable.specs.LineHops.{hops_of, Reached}
use Rattle.timetable.proofs.Lines.{long, past_end, within}
use Rattle.timetable.proofs.interval_line.IntervalLine.reaches.Goals as goal

reached : (l : IntervalLine) (place count : ℕ) → count ≡ length (hops_of l) → (b : Bool) → ltb place count ≡ b → Reached l place b
reached l place count is true e =
    let size = long (items l.pattern) l.interval l.trips l.allowed in
    within (items l.pattern) l.interval l.trips l.allowed place (omega (arith, ltb-true place count e))
reached l place count is false e =
    let size = long (items l.pattern) l.interval l.trips l.allowed in
    past_end (items l.pattern) l.interval l.trips l.allowed place (omega (arith, ltb-false place count e))

pub returns : goal.returns
returns c = reached c.args.self.now c.args.place c.hop_count.result c.hop_count.ensures.hops (ltb c.args.place c.hop_count.result) refl
