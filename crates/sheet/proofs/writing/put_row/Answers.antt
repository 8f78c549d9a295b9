use Rattle.std.proofs.Common.{◌≡◌, ℕ, zero, suc, ◌+◌, ◌<◌, ◌≤◌, true, false, List, [], ◌∷◌, ◌++◌, length, get_or, take, set, sym, refl, ap, ◌∙◌, arith, length-set, length-take}
use Rattle.std.proofs.lemmas.List.{take_more, take_all, length_push}
use Rattle.std.proofs.lemmas.Bool.{true≢false}
use Rattle.sheet.specs.Format.{stands, map_of, standing, packed, encode_row}
use Rattle.sheet.specs.Outcome.{pasted}
use Rattle.sheet.proofs.Packing.{standing_le}
use Rattle.sheet.proofs.Pasting.{pasted_one, pasted_more, standing_push, standing_push_zero}
use Rattle.sheet.proofs.writing.put_row.Goals as goal
use Rattle.sheet.proofs.writing.put_row.Goals.{then-stands, else-stands}

stands_some : (b : ℕ) → true ≡ stands b → b ≡ 0 → ⊥
stands_some zero e z = true≢false e
stands_some (suc b) e z = omega arith

stands_none : (b : ℕ) → false ≡ stands b → b ≡ 0
stands_none zero e = refl
stands_none (suc b) e = absurd (true≢false (sym e))

-- what stands of the first bytes takes no more room than they do
few : (i : ℕ) (bytes : List ℕ) → length (standing (take i bytes)) ≤ i
few i bytes = omega (arith, standing_le (take i bytes), length-take i bytes)

pub bounds-sheet-end : goal.bounds-sheet-end
bounds-sheet-end c = omega (arith, few c.loop-byte.byte-index c.six_bytes-bytes.result, length-set c.args.sheet.now c.args.at c.map_of.result)

-- one turn: `start` is the sheet as the loop began, and `sheet` as the turn begins
module _ (bytes start sheet : List ℕ) (at end i : ℕ) (is : end ≡ at + 1 + length (standing (take i bytes))) (was : sheet ≡ pasted (at + 1) (standing (take i bytes)) start)
    (within : i < length bytes) where
  abbrev After : ℕ → List ℕ → Type 0
  After end' sheet' = (end' ≡ at + 1 + length (standing (take (i + 1) bytes))) × (sheet' ≡ pasted (at + 1) (standing (take (i + 1) bytes)) start)

  skip : get_or bytes i 0 ≡ 0 → After end sheet
  skip none =
      let same : standing (take i bytes) ≡ standing (take (i + 1) bytes) = sym (ap standing (take_more bytes i 0 within) ∙ standing_push_zero (take i bytes) (get_or bytes i 0) none) in
      (is ∙ ap (λ s. at + 1 + length s) same, was ∙ ap (λ s. pasted (at + 1) s start) same)

  put : (get_or bytes i 0 ≡ 0 → ⊥) → end < length sheet → length sheet ≡ length start → After (end + 1) (set sheet end (get_or bytes i 0))
  put some room kept =
      let more : standing (take i bytes) ++ get_or bytes i 0 ∷ [] ≡ standing (take (i + 1) bytes) = sym (ap standing (take_more bytes i 0 within) ∙ standing_push (take i bytes) (get_or bytes i 0) some) in
      let longer : length (standing (take i bytes) ++ get_or bytes i 0 ∷ []) ≡ length (standing (take i bytes)) + 1 = length_push (standing (take i bytes)) (get_or bytes i 0) in
      let next : end + 1 ≡ at + 1 + length (standing (take i bytes) ++ get_or bytes i 0 ∷ []) = omega arith in (
        next ∙ ap (λ s. at + 1 + length s) more,
        pasted_more (at + 1) end (standing (take i bytes)) (get_or bytes i 0 ∷ []) start sheet (set sheet end (get_or bytes i 0)) is was (pasted_one end (get_or bytes i 0) sheet room) (omega arith)
            ∙ ap (λ s. pasted (at + 1) s start) more,
      )

pub loop-byte-preserved : goal.loop-byte-preserved
loop-byte-preserved c =
    let six_long : length c.six_bytes-bytes.result ≡ 6 = ap length c.six_bytes-bytes.ensures in
    let start = set c.args.sheet.now c.args.at c.map_of.result in
    elim c.if-stands.branch [
      | then-stands w ↦
          (let room : c.loop-byte.end < length c.loop-byte.sheet = omega (arith, few c.loop-byte.byte-index c.six_bytes-bytes.result, length-set c.args.sheet.now c.args.at c.map_of.result) in
          let turn = put c.six_bytes-bytes.result start c.loop-byte.sheet c.args.at c.loop-byte.end c.loop-byte.byte-index c.loop-byte.invariant.0 c.loop-byte.invariant.1 (omega arith) (stands_some (get_or c.six_bytes-bytes.result c.loop-byte.byte-index 0) w.if-stands.ensures) room c.loop-byte.auto.sheet in
          (w.end-is ∙ turn.0, w.sheet-is ∙ turn.1))
      | else-stands w ↦
          (let turn = skip c.six_bytes-bytes.result start c.loop-byte.sheet c.args.at c.loop-byte.end c.loop-byte.byte-index c.loop-byte.invariant.0 c.loop-byte.invariant.1 (omega arith) (stands_none (get_or c.six_bytes-bytes.result c.loop-byte.byte-index 0) w.if-stands.ensures) in
          (w.end-is ∙ turn.0, w.sheet-is ∙ turn.1))
    ]

-- the map and what stands of all six bytes: that is the row
whole : (bytes list sheet : List ℕ) (at end m : ℕ) → end ≡ at + 1 + length (standing bytes) → sheet ≡ pasted (at + 1) (standing bytes) (set list at m) → m ≡ map_of bytes → at + 7 ≤ length list → length bytes ≡ 6 → (end ≡ at + length (packed bytes)) × (sheet ≡ pasted at (packed bytes) list)
whole bytes list sheet at end m is was map room six_long = (
  omega arith,
  pasted_more at (at + 1) (m ∷ []) (standing bytes) list (set list at m) sheet refl (pasted_one at m list (omega arith)) was (omega (arith, standing_le bytes)) ∙ ap (λ x. pasted at (x ∷ standing bytes) list) map,
)

pub returns : goal.returns
unfolding encode_row
returns c =
    let bytes_are = c.six_bytes-bytes.ensures in
    let six_long : length c.six_bytes-bytes.result ≡ 6 = ap length bytes_are in
    let all : take c.loop-byte.byte-index c.six_bytes-bytes.result ≡ c.six_bytes-bytes.result = take_all c.loop-byte.byte-index c.six_bytes-bytes.result (omega arith) in
    let start = set c.args.sheet.now c.args.at c.map_of.result in
    let done = whole c.six_bytes-bytes.result c.args.sheet.now c.loop-byte.sheet c.args.at c.loop-byte.end c.map_of.result
    (c.loop-byte.invariant.0 ∙ ap (λ b. c.args.at + 1 + length (standing b)) all)
    (c.loop-byte.invariant.1 ∙ ap (λ b. pasted (c.args.at + 1) (standing b) start) all)
    c.map_of.ensures c.requires six_long in
    record {
      end = done.0 ∙ ap (λ b. c.args.at + length (packed b)) bytes_are;
      left = done.1 ∙ ap (λ b. pasted c.args.at (packed b) c.args.sheet.now) bytes_are;
    }
