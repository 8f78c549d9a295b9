use Rattle.std.proofs.Common.{◌≡◌, ℕ, ◌+◌, ◌-◌, ◌/◌, ◌<◌, ◌≢◌, List, length, get_or, take, drop, set, ap, ◌∙◌, arith, length-set, Bor}
use Rattle.std.proofs.lemmas.Bool.{ltb-true, ltb-false}
use Rattle.sheet.specs.Reading.{after, spread, bits}
use Rattle.std.proofs.lemmas.List.{get_or-set_other, set-get_or, take_rest}
use Rattle.sheet.proofs.Packing.{stop_short, stop_zero, turn_clear, turn_byte, all_places}
use Rattle.sheet.proofs.reading.take_places.Goals as goal
use Rattle.sheet.proofs.reading.take_places.Goals.{then-left-eq1+in-len1-up+else-byte-eq0, else-left-eq1}

pub returns-in_default : goal.returns-in_default
returns-in_default c =
    stop_short _ c.loop-place.place-items c.loop-place.rest.now c.loop-place.place-index c.loop-place.left c.loop-place-test.true c.loop-place.invariant.1 c.if-left-eq1.true (omega (arith, ltb-true, ltb-false))

pub returns-then-byte-eq0 : goal.returns-then-byte-eq0
returns-then-byte-eq0 c =
    stop_zero _ c.loop-place.place-items c.loop-place.rest.now c.loop-place.place-index c.loop-place.left c.loop-place-test.true c.loop-place.invariant.1 c.if-left-eq1.true c.if-byte-eq0.true

pub loop-place-preserved : goal.loop-place-preserved
loop-place-preserved c =
    let places = c.loop-place.place-items in
    let rest = c.loop-place.rest.now in
    let place = c.loop-place.place-index in
    let inv = c.loop-place.invariant in
    elim c.if-left-eq1.branch [
      | then-left-eq1+in-len1-up+else-byte-eq0 w ↦
          (let some : 0 < length rest = omega (arith, ltb-true, ltb-false) in
          let small : get_or rest 0 0 < 256 = omega arith in
          let behind : c.if-left-eq1.rest.now ≡ drop 1 rest = ap (λ (r : Bor (List ℕ)). r.now) w.rest-is ∙ take_rest rest 1 in (
            ap length w.place-items-is ∙ length-set places place (get_or rest 0 0) ∙ inv.0,
            (λ i. after (take (place + 1) (w.place-items-is i)) (spread (bits (6 - (place + 1)) (c.loop-place.left / 2)) (behind i)))
                ∙ turn_byte _ places rest place c.loop-place.left c.loop-place-test.true inv.1 inv.0 w.if-left-eq1.true some w.if-byte-eq0.false small,
            λ k le. let ne : k ≢ place = omega arith in ap (λ l. get_or l k 0) w.place-items-is ∙ get_or-set_other places place k (get_or rest 0 0) 0 ne ∙ inv.2 k (omega arith),
          ))
      | else-left-eq1 w ↦
          (let same : c.if-left-eq1.place-items ≡ set places place (get_or places place 0) = w.place-items-is in
          let kept : c.if-left-eq1.place-items ≡ places = same ∙ set-get_or places place 0 in (
            ap length kept ∙ inv.0,
            (λ i. after (take (place + 1) (kept i)) (spread (bits (6 - (place + 1)) (c.loop-place.left / 2)) (w.rest-is i).now))
                ∙ turn_clear _ places rest place c.loop-place.left c.loop-place-test.true inv.1 inv.0 (inv.2 place (omega arith)) w.if-left-eq1.false,
            λ k le. ap (λ l. get_or l k 0) kept ∙ inv.2 k (omega arith),
          ))
    ]

pub returns : goal.returns
returns c = all_places _ c.loop-place.place-items c.loop-place.rest.now c.loop-place.place-index c.loop-place.left c.loop-place-test.false c.loop-place.invariant.0 c.loop-place.invariant.1
