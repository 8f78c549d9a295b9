-- A hop that nobody rides lets all off, and that is all. Assumes nothing.
use Rattle.std.proofs.Common.{◌≡◌, ℕ, suc, ◌==◌, ◌||◌, not, Bool, true, false, cond, List, [], ◌∷◌, map, take, Some, None, Option, sym, refl, ap, ◌∙◌}
use Rattle.std.specs.Prelude.{is_none}
use Rattle.std.proofs.lemmas.Bool.{and_parts, eqb-true, true≢false}
use Rattle.timetable.specs.declared.hops.Hop.{Hop}
use Rattle.journeys.specs.declared.label.Label.{Label}
use Rattle.journeys.specs.declared.label.Passenger.{Passenger}
use Rattle.journeys.specs.Fare.{FareModel}
use Rattle.journeys.specs.Labels.{rides_on}
use Rattle.journeys.specs.Runs.{Run, on, and_then, within, run_each}
use Rattle.journeys.specs.Scan.{Stage, board, emptied, kept, with_aboard, boarding, alighting, riding, pass_hop}
use Rattle.scan.specs.declared.ride.Ride.{Ride}
use Rattle.scan.specs.Chains.{slot, first_in}
use Rattle.scan.specs.Stages.{stage_of, room_for, idle}
use Rattle.scan.specs.Stores.{labels_of}
use Rattle.scan.proofs.Chains.{stop_of}
use Rattle.scan.proofs.Slots.{boards_none}

module _ {S : Type 0} (f : FareModel S) (k i : ℕ) (h : Hop) where
  -- none of these labels is in the slot of the hop's stop, so none boards
  none_boards : (room j : ℕ) (ls : List (Label S)) (ps : List (Passenger S)) → is_none (first_in stop_of (slot h.from) j ls) ≡ true → run_each (board f room k i h) j ls ps ≡ on ps
  none_boards room j [] ps e = refl
  none_boards room j (l ∷ ls) ps e = go (slot l.stop == slot h.from) refl e (none_boards room (suc j) ls ps)
    where
      go : (b : Bool) → (slot l.stop == slot h.from) ≡ b → is_none (cond b (Some j) (first_in stop_of (slot h.from) (suc j) ls)) ≡ true
          → (is_none (first_in stop_of (slot h.from) (suc j) ls) ≡ true → run_each (board f room k i h) (suc j) ls ps ≡ on ps)
          → and_then (board f room k i h j l ps) (run_each (board f room k i h) (suc j) ls) ≡ on ps
      go true t n rest = absurd (true≢false (sym n))
      go false t n rest = ap (λ b. and_then b (run_each (board f room k i h) (suc j) ls)) (boards_none f h room k i j l ps t) ∙ rest n

  module _ (r : Ride S) where
    all_off : (not (r.trip == h.trip) || r.aboard.now.used == 0) ≡ true → kept h (stage_of r) ≡ emptied h.trip (stage_of r)
    all_off = go (r.trip == h.trip) refl
      where
        go : (b : Bool) → (r.trip == h.trip) ≡ b → (not b || r.aboard.now.used == 0) ≡ true → cond b (stage_of r) (emptied h.trip (stage_of r)) ≡ emptied h.trip (stage_of r)
        go true t e = λ v. record { trip = eqb-true r.trip h.trip t v; aboard = take (eqb-true r.aboard.now.used 0 e v) r.aboard.now.places.now; places = r.aboard.now.places.now; store = labels_of r.labels.now }
        go false t e = refl

    nobody_rides : idle h r ≡ true → riding f (room_for r) k i h (stage_of r) ≡ on (emptied h.trip (stage_of r))
    nobody_rides e =
        let p = and_parts (is_none (first_in stop_of (slot h.from) 0 (labels_of r.labels.now))) _ e in
        let on_from : Run (Stage S) → Run (Stage S) = λ b. and_then b (λ t. alighting f (room_for r) k i h (with_aboard t (map (rides_on f h) t.aboard))) in
        ap (λ s. on_from (boarding f (room_for r) k i h s)) (all_off p.1)
        ∙ ap (λ b. on_from (within (with_aboard (emptied h.trip (stage_of r))) b)) (none_boards (room_for r).aboard 0 (labels_of r.labels.now) [] p.0)

    -- so does one that does not run
    pub lets_all_off : (not h.runs || idle h r) ≡ true → pass_hop f (room_for r) k i h (stage_of r) ≡ on (emptied h.trip (stage_of r))
    unfolding pass_hop
    lets_all_off = go h.runs
      where
        go : (b : Bool) → (not b || idle h r) ≡ true → cond b (riding f (room_for r) k i h (stage_of r)) (on (emptied h.trip (stage_of r))) ≡ on (emptied h.trip (stage_of r))
        go true e = nobody_rides e
        go false e = refl
