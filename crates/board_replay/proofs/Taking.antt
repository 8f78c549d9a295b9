-- A line while a board is loaded.
use Rattle.std.proofs.Common.{◌≡◌, ℕ, Bool, true, List, ◌∷◌, Ok, Err, refl}
use Rattle.case_lines.specs.declared.line.Load.{Load}
use Rattle.case_lines.specs.Reading.{loads_with, prices}
use Rattle.board_replay.specs.declared.failure.Failure.{Failure}
use Rattle.board_replay.specs.declared.failure.Failure.TheVariants as failures
use Rattle.board_replay.specs.Files.{loaded_from, TakesLine}
use Rattle.board_replay.specs.Loading.{Handed, table, taken, table_taken, Takes}
use Rattle.board_replay.specs.Streams.{Event}

module _ (old new : Handed) (load : Load) where
  pub load_goes_on : (x : Unit {0}) → Takes (Ok x) old new (taken old load) → (begun : Bool) (events : List Event) → loaded_from old begun (Ok (loads_with load) ∷ events) ≡ loaded_from new true events
  unfolding loaded_from
  load_goes_on x h begun events = rw h refl

  pub load_fails : (e : Failure) → Takes {X = Unit {0}} (Err e) old new (taken old load) → TakesLine (loads_with load) old (Err e) new
  unfolding loaded_from
  load_fails failures.Memory h = tt
  load_fails (failures.Misplaced fault) h = λ begun events. rw h.0 refl
  load_fails (failures.Input error) h = h
  load_fails (failures.Unreadable fault) h = h
  load_fails (failures.Opening refusal) h = h
  load_fails failures.Endless h = h

module _ (old new : Handed) (starts tickets : List ℕ) where
  pub table_goes_on : (x : Unit {0}) → Takes (Ok x) old new (table_taken old (table starts tickets)) → (begun : Bool) (events : List Event) → loaded_from old begun (Ok (prices starts tickets) ∷ events) ≡ loaded_from new true events
  unfolding loaded_from
  table_goes_on x h begun events = rw h refl

  pub table_fails : (e : Failure) → Takes {X = Unit {0}} (Err e) old new (table_taken old (table starts tickets)) → TakesLine (prices starts tickets) old (Err e) new
  unfolding loaded_from
  table_fails failures.Memory h = tt
  table_fails (failures.Misplaced fault) h = λ begun events. rw h.0 refl
  table_fails (failures.Input error) h = h
  table_fails (failures.Unreadable fault) h = h
  table_fails (failures.Opening refusal) h = h
  table_fails failures.Endless h = h
