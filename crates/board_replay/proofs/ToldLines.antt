-- The line that a failure is told in.
use Rattle.std.proofs.Common.{◌≡◌, ◌⊎◌, inl, inr, ℕ, List, [], ◌∷◌, ◌++◌, Option, Some, None, refl, sym, ap, ◌∙◌, subst, append_assoc}
use Rattle.std.specs.Prelude.{codes, decimal}
use Rattle.std.proofs.lemmas.List.{append-nil}
use Rattle.std.proofs.KnownBytes.{Appends-nil}
use Rattle.std.specs.Fmt.{WritesInCalls, WritesText, with_newline}
use Rattle.std.specs.Fmt.InlineText.{inline_text, IsIntact, AppendsIfIntact}
use Rattle.std.specs.List.{FoldsTo, concat}
use Rattle.std.specs.declared.fmt.InlineText.{InlineText}
use Rattle.board_replay.specs.declared.failure.Failure.{Failure}
use Rattle.board_replay.specs.declared.failure.Failure.TheVariants as failures
use Rattle.board_replay.specs.Endings.{TellsFront}
use Rattle.board_replay.specs.Told.{failure_told, told_of_line, IsLineOf, IsTold}

module _ {n : ℕ} where
  after_calls : (s : InlineText n) (parts : List (List ℕ)) (t : InlineText n) → FoldsTo AppendsIfIntact s parts t → AppendsIfIntact s (concat parts) t
  after_calls s [] t same intact = (subst IsIntact same intact, ap inline_text (sym same) ∙ sym (append-nil (inline_text s)))
  after_calls s (part ∷ parts) t calls intact =
      let first = calls.1 intact in
      let rest = after_calls calls.0 parts t calls.2 first.0 in
      (rest.0, rest.1 ∙ ap (λ l. l ++ concat parts) first.1 ∙ append_assoc (inline_text s) part (concat parts))

  -- what an empty line has once a text was written to it
  pub written_on : (s : InlineText n) (text : List ℕ) (t : InlineText n) → WritesInCalls AppendsIfIntact s text t → IsIntact s → inline_text s ≡ [] → inline_text t ≡ text
  written_on s text t wrote intact empty =
      (after_calls s wrote.parts t wrote.calls intact).1 ∙ ap (λ l. l ++ concat wrote.parts) empty ∙ wrote.whole

  -- the line of a failure whose words are known
  pub told_plainly : (failure : Failure) (number : ℕ) (s t : InlineText n) → (failure ≡ failures.Memory) ⊎ (failure ≡ failures.Endless) → WritesText AppendsIfIntact s (with_newline (failure_told failure)) t → IsIntact s → inline_text s ≡ []
      → IsTold failure number (inline_text t)
  told_plainly failure number s t (inl is) wrote intact empty = rw is (written_on s _ t (subst (λ f. WritesText AppendsIfIntact s (with_newline (failure_told f)) t) is wrote) intact empty)
  told_plainly failure number s t (inr is) wrote intact empty = rw is (written_on s _ t (subst (λ f. WritesText AppendsIfIntact s (with_newline (failure_told f)) t) is wrote) intact empty)

-- a line that names its number, as it is written
pub named : (number : ℕ) (words : List ℕ) → codes "line " ++ (decimal number ++ (codes ": " ++ (words ++ 10 ∷ []))) ≡ told_of_line number words
named number words = ap (λ (t : List ℕ). codes "line " ++ t) (sym (append_assoc (decimal number ++ codes ": ") words (10 ∷ []) ∙ append_assoc (decimal number) (codes ": ") (words ++ 10 ∷ [])))

-- each failure has a line
a_line : (o : Option (List ℕ)) → (line : List ℕ) × IsLineOf o line
a_line (Some words) = (words ++ 10 ∷ [], refl)
a_line None = (10 ∷ [], ([], refl))

line_of : (failure : Failure) (number : ℕ) → (line : List ℕ) × IsTold failure number line
line_of (failures.Unreadable fault) number = (_, refl)
line_of (failures.Misplaced fault) number = (_, refl)
line_of failures.Memory number = a_line (failure_told failures.Memory)
line_of (failures.Input error) number = a_line (failure_told (failures.Input error))
line_of (failures.Opening refusal) number = a_line (failure_told (failures.Opening refusal))
line_of failures.Endless number = a_line (failure_told failures.Endless)

-- of which nothing was told
pub nothing_told : (failure : Failure) (number : ℕ) (old : Option (List ℕ)) → TellsFront failure number old old
nothing_told failure number old =
    let line = line_of failure number in
    (line.0, line.1, ([], line.0, refl, Appends-nil old))
