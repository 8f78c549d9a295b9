-- Writing a text call by call.
use Rattle.std.proofs.Common.{◌≡◌, ℕ, ◌+◌, ◌-◌, ◌≤◌, List, length, take, drop, Option, sym, subst, take-append-drop, arith}
use Rattle.std.proofs.KnownBytes.{Appends-trans, Appends-kept}
use Rattle.std.proofs.Math.Seq.{take-add}
use Rattle.std.proofs.lemmas.List.{take_all, length-drop}
use Rattle.std.specs.Io.KnownBytes.{Appends, Keeps}
use Rattle.board_replay.specs.Writes.{AppendsFront}

module _ (old now new : Option (List ℕ)) (text : List ℕ) (n : ℕ) (so_far : Appends old now (take n text)) where
  -- what was written so far is a front part
  pub front_so_far : AppendsFront old now text
  front_so_far = (take n text, drop n text, sym (take-append-drop n text), so_far)

  -- also after a call that wrote nothing
  pub front_kept : Keeps now new → AppendsFront old new text
  front_kept keeps = (take n text, drop n text, sym (take-append-drop n text), Appends-kept old now new (take n text) so_far keeps)

  -- a call that wrote some bytes
  pub front_grown : (count : ℕ) → Appends now new (take count (take (length text - n) (drop n text))) → Appends old new (take (n + count) text)
  front_grown count more =
      let whole : take (length text - n) (drop n text) ≡ drop n text = take_all (length text - n) (drop n text) (omega (arith, length-drop n text)) in
      subst (λ (t : List ℕ). Appends old new t) (sym (take-add n count text))
      (Appends-trans old now new (take n text) (take count (drop n text)) so_far (subst (λ (t : List ℕ). Appends now new (take count t)) whole more))

  pub front_still : Keeps now new → Appends old new (take n text)
  front_still keeps = Appends-kept old now new (take n text) so_far keeps

-- all of it was written
pub all_written : (old now : Option (List ℕ)) (text : List ℕ) (n : ℕ) → length text ≤ n → Appends old now (take n text) → Appends old now text
all_written old now text n le so_far = subst (λ (t : List ℕ). Appends old now t) (take_all n text le) so_far
