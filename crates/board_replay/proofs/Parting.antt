-- What comes of a board looks at no line behind its own: it ends well where the file does or at the next `case` line, and what
-- is recorded of it is recorded of its own lines alone.
use Rattle.std.proofs.Common.{◌≡◌, ℕ, Bool, true, false, ◌||◌, cond, List, [], ◌∷◌, ◌++◌, Option, Some, None, Ok, Err, Result, refl, ap, ◌∙◌}
use Rattle.timetable.specs.declared.hops.Hop.{Hop}
use Rattle.fares.specs.declared.fare_state.FareState.{FareState}
use Rattle.fares.specs.Ladders.{ladder_opened, ladder_model}
use Rattle.fares.specs.Surcharges.{surcharge_opened, surcharge_model}
use Rattle.fares.specs.Tariffs.{TariffModel}
use Rattle.rule_table.specs.RuleTables.{table_opened, table_model}
use Rattle.service_day.specs.DayStates.{DayState}
use Rattle.planner.specs.Outcome.{Memory}
use Rattle.day_planner.specs.Log.{Basis}
use Rattle.case_lines.specs.declared.line.Extra.{Extra}
use Rattle.case_lines.specs.declared.line.MeasureName.{MeasureName}
use Rattle.case_lines.specs.declared.line.MeasureName.TheVariants.{Metres, Stops, Zones, Level, All}
use Rattle.case_lines.specs.Reading.{nothing, begins, loads_with, prices, enters, claims}
use Rattle.records.specs.Records.{refused}
use Rattle.board_replay.specs.declared.fault.Fault.{Fault}
use Rattle.board_replay.specs.Boards.{Opened, then, measure_of, measured_by, surcharged_by, based_on, hops_by, opened_by, opened, opened_or_skipped, board_from}
use Rattle.board_replay.specs.Files.{loaded_on, loaded_from, come_of, first_board, own_lines, boards_in}
use Rattle.board_replay.specs.Loading.{Tariff, table, ladder, Handed, nothing_handed, taken, table_taken}
use Rattle.board_replay.specs.Replays.{finished, next_case, Came, day_after_line, memory_after_line, said_record, log_from, skipped}
use Rattle.board_replay.specs.Streams.{Event}

pub record Parts (came : List Event → Came) : Type 0 where
  pub case : (events : List Event) (name : List ℕ) (rest : List Event) → (came events).end ≡ next_case name rest → boards_in events ≡ record { name = name; onward = rest } ∷ boards_in rest
  pub finishes : (events : List Event) → (came events).end ≡ finished → boards_in events ≡ []
  pub own : (events : List Event) → (came events).written ≡ (came (own_lines events)).written

-- a log that is passed over
module _ where
  skip_case : (events : List Event) (name : List ℕ) (rest : List Event) → (skipped events).end ≡ next_case name rest → boards_in events ≡ record { name = name; onward = rest } ∷ boards_in rest
  unfolding skipped boards_in
  skip_case [] name rest e = cc
  skip_case (Err fault ∷ events) name rest e = cc
  skip_case (Ok nothing ∷ events) name rest e = skip_case events name rest e
  skip_case (Ok (begins n) ∷ events) name rest e =
      let p : n ≡ name = cc in
      let q : events ≡ rest = cc in
      rw (p, q) refl
  skip_case (Ok (loads_with load) ∷ events) name rest e = cc
  skip_case (Ok (prices starts tickets) ∷ events) name rest e = cc
  skip_case (Ok (enters x) ∷ events) name rest e = skip_case events name rest e
  skip_case (Ok (claims q sheet) ∷ events) name rest e = skip_case events name rest e

  skip_finishes : (events : List Event) → (skipped events).end ≡ finished → boards_in events ≡ []
  unfolding skipped boards_in
  skip_finishes [] e = refl
  skip_finishes (Err fault ∷ events) e = cc
  skip_finishes (Ok nothing ∷ events) e = skip_finishes events e
  skip_finishes (Ok (begins n) ∷ events) e = cc
  skip_finishes (Ok (loads_with load) ∷ events) e = cc
  skip_finishes (Ok (prices starts tickets) ∷ events) e = cc
  skip_finishes (Ok (enters x) ∷ events) e = skip_finishes events e
  skip_finishes (Ok (claims q sheet) ∷ events) e = skip_finishes events e

  skip_own : (events : List Event) → (skipped events).written ≡ (skipped (own_lines events)).written
  unfolding skipped own_lines
  skip_own [] = refl
  skip_own (Err fault ∷ events) = refl
  skip_own (Ok nothing ∷ events) = skip_own events
  skip_own (Ok (begins n) ∷ events) = refl
  skip_own (Ok (loads_with load) ∷ events) = refl
  skip_own (Ok (prices starts tickets) ∷ events) = refl
  skip_own (Ok (enters x) ∷ events) = skip_own events
  skip_own (Ok (claims q sheet) ∷ events) = skip_own events

pub skip_parts : Parts skipped
skip_parts = record { case = skip_case; finishes = skip_finishes; own = skip_own }

-- a log
module _ {K W : Type 0} (b : Basis K W) where
  log_case : (d : DayState) (m : Memory (FareState K W)) (events : List Event) (name : List ℕ) (rest : List Event) → (log_from b d m events).end ≡ next_case name rest → boards_in events ≡ record { name = name; onward = rest } ∷ boards_in rest
  unfolding log_from boards_in
  log_case d m [] name rest e = cc
  log_case d m (Err fault ∷ events) name rest e = cc
  log_case d m (Ok nothing ∷ events) name rest e = log_case d m events name rest e
  log_case d m (Ok (begins n) ∷ events) name rest e =
      let p : n ≡ name = cc in
      let q : events ≡ rest = cc in
      rw (p, q) refl
  log_case d m (Ok (loads_with load) ∷ events) name rest e = cc
  log_case d m (Ok (prices starts tickets) ∷ events) name rest e = cc
  log_case d m (Ok (enters x) ∷ events) name rest e = log_case (day_after_line b d (enters x)) (memory_after_line b d m (enters x)) events name rest e
  log_case d m (Ok (claims q sheet) ∷ events) name rest e = log_case d (memory_after_line b d m (claims q sheet)) events name rest e

  log_finishes : (d : DayState) (m : Memory (FareState K W)) (events : List Event) → (log_from b d m events).end ≡ finished → boards_in events ≡ []
  unfolding log_from boards_in
  log_finishes d m [] e = refl
  log_finishes d m (Err fault ∷ events) e = cc
  log_finishes d m (Ok nothing ∷ events) e = log_finishes d m events e
  log_finishes d m (Ok (begins n) ∷ events) e = cc
  log_finishes d m (Ok (loads_with load) ∷ events) e = cc
  log_finishes d m (Ok (prices starts tickets) ∷ events) e = cc
  log_finishes d m (Ok (enters x) ∷ events) e = log_finishes (day_after_line b d (enters x)) (memory_after_line b d m (enters x)) events e
  log_finishes d m (Ok (claims q sheet) ∷ events) e = log_finishes d (memory_after_line b d m (claims q sheet)) events e

  log_own : (d : DayState) (m : Memory (FareState K W)) (events : List Event) → (log_from b d m events).written ≡ (log_from b d m (own_lines events)).written
  unfolding log_from own_lines
  log_own d m [] = refl
  log_own d m (Err fault ∷ events) = refl
  log_own d m (Ok nothing ∷ events) = log_own d m events
  log_own d m (Ok (begins n) ∷ events) = refl
  log_own d m (Ok (loads_with load) ∷ events) = refl
  log_own d m (Ok (prices starts tickets) ∷ events) = refl
  log_own d m (Ok (enters x) ∷ events) = ap (λ (text : List ℕ). said_record b d m (enters x) ++ text) (log_own (day_after_line b d (enters x)) (memory_after_line b d m (enters x)) events)
  log_own d m (Ok (claims q sheet) ∷ events) = ap (λ (text : List ℕ). said_record b d m (claims q sheet) ++ text) (log_own d (memory_after_line b d m (claims q sheet)) events)

  log_parts : (d : DayState) (m : Memory (FareState K W)) → Parts (log_from b d m)
  log_parts d m = record { case = log_case d m; finishes = log_finishes d m; own = log_own d m }

-- a board that is opened, or refused
abbrev OpenedParts : Opened → Type 0
OpenedParts (Ok came) = Parts came
OpenedParts (Err c) = Unit {0}

then_parts : {X : Type 0} (x : Result X (ℕ × List ℕ)) (next : X → Opened) → ((y : X) → OpenedParts (next y)) → OpenedParts (then x next)
then_parts (Ok y) next h = h y
then_parts (Err c) next h = tt

measured_parts : {K : Type 0} (name : MeasureName) (f : TariffModel K) (hops : List Hop) (h : Handed) → Parts (measured_by name f hops h)
measured_parts Metres f hops h = log_parts _ _ _
measured_parts Stops f hops h = log_parts _ _ _
measured_parts Zones f hops h = log_parts _ _ _
measured_parts Level f hops h = log_parts _ _ _
measured_parts All f hops h = log_parts _ _ _

surcharged_parts : {K : Type 0} (extra : Option Extra) (f : TariffModel K) (hops : List Hop) (h : Handed) → OpenedParts (surcharged_by extra f hops h)
surcharged_parts None f hops h = measured_parts (measure_of h.measure) f hops h
surcharged_parts (Some extra) f hops h =
    then_parts (surcharge_opened f extra.event extra.amount) (λ s. Ok (measured_by (measure_of h.measure) (surcharge_model extra.event extra.amount f) hops h)) (λ s. measured_parts (measure_of h.measure) (surcharge_model extra.event extra.amount f) hops h)

based_parts : (tariff : Tariff) (hops : List Hop) (h : Handed) → OpenedParts (based_on (Some tariff) hops h)
based_parts (table starts tickets) hops h =
    then_parts (table_opened tickets h.rules starts) (λ t. surcharged_by h.surcharge (table_model tickets h.rules starts) hops h) (λ t. surcharged_parts h.surcharge (table_model tickets h.rules starts) hops h)
based_parts (ladder first step) hops h =
    then_parts (ladder_opened first step) (λ t. surcharged_by h.surcharge (ladder_model first step) hops h) (λ t. surcharged_parts h.surcharge (ladder_model first step) hops h)

opened_parts : (tariff : Option Tariff) (h : Handed) → OpenedParts (opened_by tariff h)
opened_parts None h = record { case = λ events name rest e. cc; finishes = λ events e. cc; own = λ events. refl }
opened_parts (Some tariff) h = then_parts (hops_by h.timing h.hops) (λ hops. based_on (Some tariff) hops h) (λ hops. based_parts tariff hops h)

board_parts_of : (o : Opened) → OpenedParts o → Parts (opened_or_skipped o)
board_parts_of (Ok came) p = record { case = p.case; finishes = p.finishes; own = p.own }
board_parts_of (Err c) p = record { case = skip_case; finishes = skip_finishes; own = λ events. ap (λ (text : List ℕ). refused c.0 c.1 ++ text) (skip_own events) }

stop_parts : (b : Bool) (h : Handed) → Parts (λ events. cond b (board_from h events) (skipped events))
stop_parts true h = let p = board_parts_of (opened h) (opened_parts h.tariff h) in record { case = p.case; finishes = p.finishes; own = p.own }
stop_parts false h = record { case = skip_case; finishes = skip_finishes; own = skip_own }

-- a board with what it was loaded with
module _ (named : Bool) where
  -- a line that is taken, or cannot stand there
  on_case : (t : Result Handed Fault) (events : List Event) (name : List ℕ) (rest : List Event) (P : Type 0) → ((new : Handed) → (come_of named (loaded_from new true events)).end ≡ next_case name rest → P)
      → (come_of named (loaded_on t events (λ new. loaded_from new true events))).end ≡ next_case name rest → P
  on_case (Ok new) events name rest P h e = h new e
  on_case (Err fault) events name rest P h e = cc

  on_finished : (t : Result Handed Fault) (events : List Event) (P : Type 0) → ((new : Handed) → (come_of named (loaded_from new true events)).end ≡ finished → P)
      → (come_of named (loaded_on t events (λ new. loaded_from new true events))).end ≡ finished → P
  on_finished (Ok new) events P h e = h new e
  on_finished (Err fault) events P h e = cc

  on_own : (t : Result Handed Fault) (events own : List Event) → ((new : Handed) → (come_of named (loaded_from new true events)).written ≡ (come_of named (loaded_from new true own)).written)
      → (come_of named (loaded_on t events (λ new. loaded_from new true events))).written ≡ (come_of named (loaded_on t own (λ new. loaded_from new true own))).written
  on_own (Ok new) events own h = h new
  on_own (Err fault) events own h = refl

  file_case : (h : Handed) (begun : Bool) (events : List Event) (name : List ℕ) (rest : List Event) → (come_of named (loaded_from h begun events)).end ≡ next_case name rest → boards_in events ≡ record { name = name; onward = rest } ∷ boards_in rest
  unfolding loaded_from boards_in
  file_case h begun [] name rest e = (stop_parts (named || begun) h).case [] name rest e
  file_case h begun (Err fault ∷ events) name rest e = cc
  file_case h begun (Ok nothing ∷ events) name rest e = file_case h begun events name rest e
  file_case h begun (Ok (begins n) ∷ events) name rest e = (stop_parts (named || (begun || false)) h).case (Ok (begins n) ∷ events) name rest e
  file_case h begun (Ok (enters x) ∷ events) name rest e = (stop_parts (named || (begun || true)) h).case (Ok (enters x) ∷ events) name rest e
  file_case h begun (Ok (claims q sheet) ∷ events) name rest e = (stop_parts (named || (begun || true)) h).case (Ok (claims q sheet) ∷ events) name rest e
  file_case h begun (Ok (loads_with load) ∷ events) name rest e = on_case (taken h load) events name rest (boards_in events ≡ record { name = name; onward = rest } ∷ boards_in rest) (λ new e. file_case new true events name rest e) e
  file_case h begun (Ok (prices starts tickets) ∷ events) name rest e = on_case (table_taken h (table starts tickets)) events name rest (boards_in events ≡ record { name = name; onward = rest } ∷ boards_in rest) (λ new e. file_case new true events name rest e) e

  file_finishes : (h : Handed) (begun : Bool) (events : List Event) → (come_of named (loaded_from h begun events)).end ≡ finished → boards_in events ≡ []
  unfolding loaded_from boards_in
  file_finishes h begun [] e = refl
  file_finishes h begun (Err fault ∷ events) e = cc
  file_finishes h begun (Ok nothing ∷ events) e = file_finishes h begun events e
  file_finishes h begun (Ok (begins n) ∷ events) e = (stop_parts (named || (begun || false)) h).finishes (Ok (begins n) ∷ events) e
  file_finishes h begun (Ok (enters x) ∷ events) e = (stop_parts (named || (begun || true)) h).finishes (Ok (enters x) ∷ events) e
  file_finishes h begun (Ok (claims q sheet) ∷ events) e = (stop_parts (named || (begun || true)) h).finishes (Ok (claims q sheet) ∷ events) e
  file_finishes h begun (Ok (loads_with load) ∷ events) e = on_finished (taken h load) events (boards_in events ≡ []) (λ new e. file_finishes new true events e) e
  file_finishes h begun (Ok (prices starts tickets) ∷ events) e = on_finished (table_taken h (table starts tickets)) events (boards_in events ≡ []) (λ new e. file_finishes new true events e) e

  false_right : (b : Bool) → (b || false) ≡ b
  false_right true = refl
  false_right false = refl

  file_own : (h : Handed) (begun : Bool) (events : List Event) → (come_of named (loaded_from h begun events)).written ≡ (come_of named (loaded_from h begun (own_lines events))).written
  unfolding loaded_from own_lines
  file_own h begun [] = refl
  file_own h begun (Err fault ∷ events) = refl
  file_own h begun (Ok nothing ∷ events) = file_own h begun events
  file_own h begun (Ok (begins n) ∷ events) =
      (stop_parts (named || (begun || false)) h).own (Ok (begins n) ∷ events) ∙ ap (λ (b : Bool). (cond (named || b) (board_from h []) (skipped [])).written) (false_right begun)
  file_own h begun (Ok (enters x) ∷ events) = (stop_parts (named || (begun || true)) h).own (Ok (enters x) ∷ events)
  file_own h begun (Ok (claims q sheet) ∷ events) = (stop_parts (named || (begun || true)) h).own (Ok (claims q sheet) ∷ events)
  file_own h begun (Ok (loads_with load) ∷ events) = on_own (taken h load) events (own_lines events) (λ new. file_own new true events)
  file_own h begun (Ok (prices starts tickets) ∷ events) = on_own (table_taken h (table starts tickets)) events (own_lines events) (λ new. file_own new true events)

  pub first_parts : Parts (first_board named)
  first_parts = record { case = file_case nothing_handed false; finishes = file_finishes nothing_handed false; own = file_own nothing_handed false }
