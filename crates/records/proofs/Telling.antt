-- A claim is told by its bytes.
use Rattle.std.proofs.Common.{◌≡◌, ◌≢◌, ℕ, Bool, true, false, List, take, Ok, Err, Result, sym, refl, ap}
use Rattle.std.proofs.lemmas.Slice.Eq.{bytes_eq-Decides}
use Rattle.std.specs.Prelude.{if◌then◌else◌}
use Rattle.std.specs.Str.{bytes_eq}
use Rattle.day_planner.specs.declared.refusal.Refusal.{Refusal}
use Rattle.day_planner.specs.declared.reply.Reply.{Reply}
use Rattle.day_planner.specs.declared.reply.Reply.TheVariants.{Done, Answered}
use Rattle.records.specs.Records.{claim_record, ClaimIsTold, same_line, differs_line}

-- what bytes that are other bytes decide
unequal : (xs ys : List ℕ) → ys ≢ xs → bytes_eq xs ys ≡ false
unequal xs ys other = go (bytes_eq xs ys) refl
  where
    go : (b : Bool) → bytes_eq xs ys ≡ b → b ≡ false
    go true e = absurd (other (sym ((bytes_eq-Decides xs ys).0 e)))
    go false e = refl

pub claim_told : (reply : Result Reply Refusal) (sheet claimed : List ℕ) → ClaimIsTold reply sheet claimed (claim_record reply sheet claimed)
claim_told (Ok Done) sheet claimed = refl
claim_told (Ok (Answered a)) sheet claimed = (
  λ e. ap (λ b. if b then same_line else differs_line) ((bytes_eq-Decides (take a.bytes sheet) claimed).1 (sym e)),
  λ e. ap (λ b. if b then same_line else differs_line) (unequal (take a.bytes sheet) claimed e),
)
claim_told (Err refusal) sheet claimed = refl
