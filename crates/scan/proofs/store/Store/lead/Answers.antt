use Rattle.std.proofs.Common.{◌<◌, ◌++◌, length, get_or, take, drop, set, Some, sym, ap, ◌∙◌, arith, get_or-take}
use Rattle.std.proofs.Math.Seq.{take-set-lt}
use Rattle.std.proofs.lemmas.List.{take-append-drop, drop-set-lt, length-take-le, length-set}
use Rattle.scan.specs.declared.link.Link.{Link}
use Rattle.scan.specs.declared.stored_label.StoredLabel.{StoredLabel}
use Rattle.scan.specs.Stores.{as_filled}
use Rattle.scan.proofs.Chains.{lead_set}
use Rattle.scan.proofs.Filling.{length_filled}
use Rattle.scan.proofs.store.Store.lead.Goals as goal

pub returns-clause-filled : goal.returns-clause-filled
returns-clause-filled g c =
    let f = as_filled c.args.self.now in
    let r = c.index-self-place.result in
    let v : StoredLabel g.row.S.Denot = record { label = r.label; next = c.to.result } in
    let h : c.args.place < length (take f.used f.places.now) = omega (arith, length_filled f, c.requires.written) in
    ap (λ (w : StoredLabel g.row.S.Denot). take f.used (set f.places.now c.args.place (record { label = w.label; next = c.to.result }))) (sym c.index-self-place.is)
    ∙ take-set-lt f.used f.places.now c.args.place v c.requires.written
    ∙ ap (λ (n : Link). set (take f.used f.places.now) c.args.place (record { label = r.label; next = n })) c.to.ensures
    ∙ lead_set (take f.used f.places.now) c.args.place c.args.next r h (c.index-self-place.is ∙ sym (get_or-take f.used f.places.now c.args.place r c.requires.written))

pub returns-clause-behind : goal.returns-clause-behind
returns-clause-behind g c =
    let f = as_filled c.args.self.now in
    let r = c.index-self-place.result in
    let v : StoredLabel g.row.S.Denot = record { label = (get_or f.places.now c.args.place r).label; next = c.to.result } in
    let now = set f.places.now c.args.place v in
    sym (take-append-drop f.used now)
    ∙ (λ i. take f.used now ++ drop-set-lt f.used f.places.now c.args.place v c.requires.written i)
    ∙ ap (λ (n : _). take f.used now ++ drop n f.places.now) (sym (length-take-le f.used now (let fits = f.fits in omega (arith, length-set f.places.now c.args.place v))))
