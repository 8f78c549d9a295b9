use Rattle.std.proofs.Common.{◌≡◌, length, take, Some, None, sym, ap, ◌∙◌, arith}
use Rattle.std.proofs.lemmas.List.{map-set, get_or-map}
use Rattle.journeys.specs.Runs.{overlay}
use Rattle.scan.specs.Filling.{filled}
use Rattle.scan.specs.Links.{link, place_of}
use Rattle.scan.specs.Stores.{as_filled, places_of}
use Rattle.scan.proofs.Filling.{overlay_same}
use Rattle.scan.proofs.Stores.{last_written, after_labels, after_extended}
use Rattle.scan.proofs.store.Store.write.Goals as goal
use Rattle.scan.proofs.store.Store.write.Goals.{in-Some, in-None}

pub lead-requires : goal.lead-requires
lead-requires g c =
    let last = c.args.self.now.last in
    record {
      written = last_written c.args.self.now c.slot-slot.result c.in-Some.before c.requires.chained c.slot-slot.ensures.within
          (get_or-map place_of last c.slot-slot.result _ None (omega (arith, c.slot-slot.ensures.within, c.requires.chained.lasts)) ∙ sym c.place.ensures ∙ c.in-Some.is);
      room = c.requires.room;
    }

pub returns : goal.returns
returns g c =
    let old = c.args.self.now in
    let mid = c.match-place.self in
    let slot = c.slot-slot.ensures in
    let fill = c.fill.ensures in
    let found = get_or-map place_of old.last c.slot-slot.result _ None (omega (arith, slot.within, c.requires.chained.lasts)) ∙ sym c.place.ensures in
    elim c.match-place.branch [
      | in-Some w ↦
          let e = w.self-is in
          let lead = w.lead.ensures in
          let behind = ap (λ s. s.places.now) e ∙ lead.behind ∙ ap (λ s. overlay (filled (as_filled s)) old.places.now) (sym e) in
          record {
            labels = after_labels old mid c.fill.new.self c.args.label c.slot-slot.result c.requires.chained slot.is slot.within (Some w.in-Some.before) (found ∙ w.in-Some.is) (ap (λ s. filled (as_filled s)) e ∙ lead.filled) (ap (λ s. s.used) e ∙ lead.used) (ap (λ s. places_of s.first) e ∙ ap places_of lead.first) (ap (λ s. s.last) e ∙ lead.last)
                (ap (λ s. s.places.ghost_name) e ∙ lead.same) (ap (λ s. length s.places.now) e ∙ lead.room) behind fill.filled fill.kept fill.first fill.last;
            extended = after_extended old mid c.fill.new.self c.args.label c.slot-slot.result c.requires.chained slot.is slot.within (Some w.in-Some.before) (found ∙ w.in-Some.is) (ap (λ s. filled (as_filled s)) e ∙ lead.filled) (ap (λ s. s.used) e ∙ lead.used) (ap (λ s. places_of s.first) e ∙ ap places_of lead.first) (ap (λ s. s.last) e ∙ lead.last)
                (ap (λ s. s.places.ghost_name) e ∙ lead.same) (ap (λ s. length s.places.now) e ∙ lead.room) behind fill.filled fill.kept fill.first fill.last;
          }
      | in-None w ↦
          let e = w.self-is in
          let begin = w.begin.ensures in
          let places = ap (λ s. s.places) e ∙ begin.places in
          let used = ap (λ s. s.used) e ∙ begin.used in
          let led : filled (as_filled mid) ≡ filled (as_filled old) = λ v. take (used v) (places v).now in
          let behind = ap (λ p. p.now) places ∙ overlay_same (as_filled old) ∙ ap (λ l. overlay l old.places.now) (sym led) in
          record {
            labels = after_labels old mid c.fill.new.self c.args.label c.slot-slot.result c.requires.chained slot.is slot.within None (found ∙ w.in-None.is) led used (ap (λ s. places_of s.first) e ∙ ap places_of begin.first ∙ map-set place_of old.first c.slot-slot.result (link (Some old.used))) (ap (λ s. s.last) e ∙ begin.last)
                (ap (λ p. p.ghost_name) places) (ap (λ p. length p.now) places) behind fill.filled fill.kept fill.first fill.last;
            extended = after_extended old mid c.fill.new.self c.args.label c.slot-slot.result c.requires.chained slot.is slot.within None (found ∙ w.in-None.is) led used (ap (λ s. places_of s.first) e ∙ ap places_of begin.first ∙ map-set place_of old.first c.slot-slot.result (link (Some old.used))) (ap (λ s. s.last) e ∙ begin.last)
                (ap (λ p. p.ghost_name) places) (ap (λ p. length p.now) places) behind fill.filled fill.kept fill.first fill.last;
          }
    ]
