-- A line of a log.
use Rattle.std.proofs.Common.{◌≡◌, ℕ, List, ◌∷◌, Some, None, Ok, Err, Vec, Global, refl, sym, ap, ◌∙◌}
use Rattle.case_lines.specs.Reading.{Said}
use Rattle.board_replay.specs.declared.fault.Fault.{Fault}
use Rattle.fares.specs.declared.fare_state.FareState.{FareState}
use Rattle.service_day.specs.DayStates.{DayState}
use Rattle.planner.specs.Outcome.{Memory}
use Rattle.day_planner.specs.Log.{Basis}
use Rattle.board_replay.specs.Streams.{Event}
use Rattle.board_replay.specs.Replays.{next_case, misplaced, Came, ends, onto, Turn, goes_on, next_board, wrong, turn_of, Turns, turned, said_record, day_after_line, memory_after_line, log_from, skipped}

turned_case : (t : Turn) (name : Vec ℕ Global) → Turns t (Ok (Some name)) → (events : List Event) (came : Came) → turned t events came ≡ ends (next_case name.items events)
turned_case goes_on name h events came = cc
turned_case (next_board n) name h events came =
    let same : name ≡ h.0 = cc in
    ap (λ text. ends (next_case text events)) (sym (ap (λ (v : Vec ℕ Global). v.items) same ∙ h.2))
turned_case (wrong fault) name h events came = cc

turned_fault : (t : Turn) (fault : Fault) → Turns t (Err fault) → (events : List Event) (came : Came) → turned t events came ≡ ends (misplaced fault events)
turned_fault goes_on fault h events came = cc
turned_fault (next_board n) fault h events came = let e = h.1 in cc
turned_fault (wrong other) fault h events came = cc

turned_on : (t : Turn) → Turns t (Ok None) → (events : List Event) (came : Came) → turned t events came ≡ came
turned_on goes_on h events came = refl
turned_on (next_board n) h events came = let e = h.1 in cc
turned_on (wrong fault) h events came = cc

module _ (said : Said) where
  pub skips_to_case : (name : Vec ℕ Global) → Turns (turn_of said) (Ok (Some name)) → (events : List Event) → skipped (Ok said ∷ events) ≡ ends (next_case name.items events)
  unfolding skipped
  skips_to_case name h events = turned_case (turn_of said) name h events (skipped events)

  pub skips_to_fault : (fault : Fault) → Turns (turn_of said) (Err fault) → (events : List Event) → skipped (Ok said ∷ events) ≡ ends (misplaced fault events)
  unfolding skipped
  skips_to_fault fault h events = turned_fault (turn_of said) fault h events (skipped events)

  pub skips_on : Turns (turn_of said) (Ok None) → (events : List Event) → skipped (Ok said ∷ events) ≡ skipped events
  unfolding skipped
  skips_on h events = turned_on (turn_of said) h events (skipped events)

module _ {K W : Type 0} (b : Basis K W) (d : DayState) (m : Memory (FareState K W)) (said : Said) where
  pub logs_to_case : (name : Vec ℕ Global) → Turns (turn_of said) (Ok (Some name)) → (events : List Event) → log_from b d m (Ok said ∷ events) ≡ ends (next_case name.items events)
  unfolding log_from
  logs_to_case name h events = turned_case (turn_of said) name h events (onto (said_record b d m said) (log_from b (day_after_line b d said) (memory_after_line b d m said) events))

  pub logs_to_fault : (fault : Fault) → turn_of said ≡ wrong fault → (events : List Event) → log_from b d m (Ok said ∷ events) ≡ ends (misplaced fault events)
  unfolding log_from
  logs_to_fault fault h events = ap (λ t. turned t events (onto (said_record b d m said) (log_from b (day_after_line b d said) (memory_after_line b d m said) events))) h

  pub logs_on : (text : List ℕ) (day : DayState) (memory : Memory (FareState K W)) → text ≡ said_record b d m said → day ≡ day_after_line b d said → memory ≡ memory_after_line b d m said
      → Turns (turn_of said) (Ok None) → (events : List Event) → log_from b d m (Ok said ∷ events) ≡ onto text (log_from b day memory events)
  unfolding log_from
  logs_on text day memory is_text is_day is_memory h events =
      rw (is_text, is_day, is_memory) (turned_on (turn_of said) h events (onto (said_record b d m said) (log_from b (day_after_line b d said) (memory_after_line b d m said) events)))
