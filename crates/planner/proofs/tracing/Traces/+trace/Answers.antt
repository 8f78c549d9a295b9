use Rattle.std.proofs.Common.{◌<◌, map, length, set, sym, ap, ◌∙◌, arith}
use lib.ListN.{length-map}
use Rattle.journeys.specs.Traces.{legs_of, spelled}
use Rattle.sheet.specs.Outcome.{pasted}
use Rattle.sheet.proofs.Pasting.{pasted_none}
use Rattle.journeys.specs.declared.label.Label.{Label}
use Rattle.scan.specs.declared.stored_label.StoredLabel.{StoredLabel}
use Rattle.scan.specs.Chains.{labels_in}
use Rattle.planner.specs.Tracing.{last_leg}
use Rattle.scan.proofs.Chains.{label_read}
use Rattle.planner.proofs.Legs.{no_leg, leg_after, leg_end, leg_written, leg_room}
use Rattle.planner.proofs.tracing.Traces.+trace.Goals as goal

pub returns-in_default : goal.returns-in_default
returns-in_default g t c =
    let ls = labels_in c.args.self.now.labels.now in
    let read = label_read c.args.self.now.labels.now c.args.place c.index-self-place.result (omega (arith, length-map c.args.self.now.labels.now (λ l. l.label), c.requires.place_in_bounds)) c.index-self-place.is in
    let told = c.last_leg.ensures ∙ ap (λ (w : StoredLabel g.row.S.Denot). last_leg c.args.row w.label.way) (sym c.index-self-place.is) ∙ ap (λ (l : Label g.row.S.Denot). last_leg c.args.row l.way) read.1 in
    let none = no_leg ls c.args.place c.index-self-place.result.label read.0 read.1 c.args.row c.last_leg.result told c.in_default.is in
    record {
      end = omega (arith, ap length none);
      legs = pasted_none c.args.at c.args.legs.now ∙ ap (λ ls. pasted c.args.at (map (spelled c.args.row) ls) c.args.legs.now) (sym none);
    }

pub trace-end-requires : goal.trace-end-requires
trace-end-requires g t c κs within =
    let ls = labels_in c.args.self.now.labels.now in
    let read = label_read c.args.self.now.labels.now c.args.place c.index-self-place.result (omega (arith, length-map c.args.self.now.labels.now (λ l. l.label), c.requires.place_in_bounds)) c.index-self-place.is in
    let told = c.last_leg.ensures ∙ ap (λ (w : StoredLabel g.row.S.Denot). last_leg c.args.row w.label.way) (sym c.index-self-place.is) ∙ ap (λ (l : Label g.row.S.Denot). last_leg c.args.row l.way) read.1 in
    let a = leg_after ls c.args.place c.index-self-place.result.label read.0 read.1 c.args.row c.in-Some.leg c.in-Some.from c.args.self.now.backward c.last_leg.result told c.in-Some.is in
    let is = a.1.1.1 in
    let room = leg_room (legs_of ls c.in-Some.from) (legs_of ls c.args.place) a.1.0 c.args.at (length c.args.legs.now) is c.requires.legs_fit in
    (omega (arith, a.0, c.decreases), (within, (omega (arith, a.0, c.requires.place_in_bounds), omega (arith, room))))

pub bounds-legs-end : goal.bounds-legs-end
bounds-legs-end g t c =
    let ls = labels_in c.args.self.now.labels.now in
    let read = label_read c.args.self.now.labels.now c.args.place c.index-self-place.result (omega (arith, length-map c.args.self.now.labels.now (λ l. l.label), c.requires.place_in_bounds)) c.index-self-place.is in
    let told = c.last_leg.ensures ∙ ap (λ (w : StoredLabel g.row.S.Denot). last_leg c.args.row w.label.way) (sym c.index-self-place.is) ∙ ap (λ (l : Label g.row.S.Denot). last_leg c.args.row l.way) read.1 in
    let a = leg_after ls c.args.place c.index-self-place.result.label read.0 read.1 c.args.row c.in-Some.leg c.in-Some.from c.args.self.now.backward c.last_leg.result told c.in-Some.is in
    let is = a.1.1.1 in
    let room = leg_room (legs_of ls c.in-Some.from) (legs_of ls c.args.place) a.1.0 c.args.at (length c.args.legs.now) is c.requires.legs_fit in
    omega (arith, room, c.trace-end.ensures.end, c.trace-end.auto.legs)

pub returns : goal.returns
returns g t c =
    let ls = labels_in c.args.self.now.labels.now in
    let read = label_read c.args.self.now.labels.now c.args.place c.index-self-place.result (omega (arith, length-map c.args.self.now.labels.now (λ l. l.label), c.requires.place_in_bounds)) c.index-self-place.is in
    let told = c.last_leg.ensures ∙ ap (λ (w : StoredLabel g.row.S.Denot). last_leg c.args.row w.label.way) (sym c.index-self-place.is) ∙ ap (λ (l : Label g.row.S.Denot). last_leg c.args.row l.way) read.1 in
    let a = leg_after ls c.args.place c.index-self-place.result.label read.0 read.1 c.args.row c.in-Some.leg c.in-Some.from c.args.self.now.backward c.last_leg.result told c.in-Some.is in
    let is = a.1.1.1 in
    let room = leg_room (legs_of ls c.in-Some.from) (legs_of ls c.args.place) a.1.0 c.args.at (length c.args.legs.now) is c.requires.legs_fit in
    let inside : c.trace-end.result < length c.trace-end.new.legs = omega (arith, room, c.trace-end.ensures.end, c.trace-end.auto.legs) in
    record {
      end = leg_end c.args.row c.args.at c.trace-end.result (legs_of ls c.in-Some.from) (legs_of ls c.args.place) a.1.0 c.args.legs.now c.trace-end.new.legs is c.trace-end.ensures.end c.trace-end.ensures.legs c.requires.legs_fit;
      legs = ap (λ x. set c.trace-end.new.legs c.trace-end.result x) a.1.1.0 ∙ leg_written c.args.row c.args.at c.trace-end.result (legs_of ls c.in-Some.from) (legs_of ls c.args.place) a.1.0 c.args.legs.now c.trace-end.new.legs is c.trace-end.ensures.end c.trace-end.ensures.legs c.requires.legs_fit inside;
    }
