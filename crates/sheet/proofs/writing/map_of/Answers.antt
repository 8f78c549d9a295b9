use Rattle.std.proofs.Common.{◌≡◌, ℕ, ◌<◌, List, [], ◌∷◌, ◌++◌, length, ap, ◌∙◌, append_assoc, arith, length-append}
use Rattle.std.specs.List.{push}
use Rattle.sheet.specs.Format.{map_of}
use Rattle.sheet.proofs.Packing.{map_of_small}
use Rattle.sheet.proofs.writing.map_of.Goals as goal

-- one byte of those left goes behind
module _ (bytes rest front behind : List ℕ) (byte : ℕ) (whole : bytes ≡ rest ++ behind) (steps : rest ≡ push front byte) where
  moved : bytes ≡ front ++ byte ∷ behind
  moved = whole ∙ ap (λ l. l ++ behind) steps ∙ append_assoc front (byte ∷ []) behind

  small : length bytes ≡ 6 → map_of behind < 64
  small six = map_of_small behind (omega (arith, ap length moved, length-append front (byte ∷ behind)))

pub with_bit-map-requires : goal.with_bit-map-requires
with_bit-map-requires c =
    let inv = c.loop-byte.invariant.2 in
    rw inv.2 (small c.args.bytes.now c.loop-byte.byte-iterator.iter.rest.now c.next.new.self.iter.rest.now inv.0 c.in-Some.byte.now inv.1 c.in-Some.ensures.steps c.told-bytes)
