use Rattle.std.proofs.Common.{◌*◌, sym, ap, ◌∙◌}
use Rattle.short_list.specs.Items.{items}
use Rattle.timetable.proofs.Lines.{hops_few, long}
use Rattle.timetable.proofs.interval_line.IntervalLine.hop_count.Goals as goal

pub returns : goal.returns
returns c =
    let l = c.args.self.now in
    record {
      hops = ap (λ n. n * l.trips) c.len.ensures ∙ sym (long (items l.pattern) l.interval l.trips l.allowed);
      few = rw c.len.ensures (hops_few (items l.pattern) l.interval l.trips l.allowed);
    }
