-- A blank between each two bytes is a blank in front of each but the first.
use Rattle.std.proofs.Common.{◌≡◌, ℕ, ◌-◌, ◌<◌, ◌≤◌, List, [], ◌∷◌, ◌++◌, length, take, drop, map, slice_index, sym, ap, ◌∙◌, arith, append_assoc, append-nil}
use Rattle.std.proofs.lemmas.List.{take_all, take_rest}
use Rattle.std.specs.List.{flat_map, join_with_byte}
use Rattle.records.specs.Records.{hex}

-- a byte behind a blank
abbrev pub spaced_hex : ℕ → List ℕ
spaced_hex byte = 32 ∷ hex byte

join-map_hex : (byte : ℕ) (bytes : List ℕ) → join_with_byte 32 (map hex (byte ∷ bytes)) ≡ hex byte ++ flat_map spaced_hex bytes
join-map_hex byte [] = sym (append-nil (hex byte))
join-map_hex byte (next ∷ bytes) = ap (λ l. hex byte ++ 32 ∷ l) (join-map_hex next bytes)

first_apart : (bytes : List ℕ) → 0 < length bytes → hex (slice_index bytes 0) ++ flat_map spaced_hex (drop 1 bytes) ≡ join_with_byte 32 (map hex bytes)
first_apart [] some = absurd (omega arith)
first_apart (byte ∷ bytes) some = sym (join-map_hex byte bytes)

-- once all that follow the first byte are written behind it, the bytes are written
pub all_written : (before bytes : List ℕ) (i : ℕ) → 0 < length bytes → length (take (length bytes - 1) (drop 1 bytes)) ≤ i
    → (before ++ hex (slice_index bytes 0)) ++ flat_map spaced_hex (take i (take (length bytes - 1) (drop 1 bytes))) ≡ before ++ join_with_byte 32 (map hex bytes)
all_written before bytes i some past =
    ap (λ (l : List ℕ). (before ++ hex (slice_index bytes 0)) ++ flat_map spaced_hex l) (take_all i (take (length bytes - 1) (drop 1 bytes)) past ∙ take_rest bytes 1)
    ∙ append_assoc before (hex (slice_index bytes 0)) (flat_map spaced_hex (drop 1 bytes))
    ∙ ap (λ (l : List ℕ). before ++ l) (first_apart bytes some)
