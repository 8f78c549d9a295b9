-- What the timetable rule says of a hop at a place, and of two neighbours: what a planner needs of any timetable's list.
use Rattle.std.proofs.Common.{◌≡◌, ℕ, suc, ◌+◌, ◌<◌, ◌≤◌, Bool, true, false, cond, ltb, ◌⊎◌, List, Some, None, arith}
use Rattle.std.specs.List.{slice_get}
use Rattle.timetable.specs.declared.hops.Hop.{Hop}
use Rattle.timetable.specs.Rule.{keeps, Limits}
use Rattle.timetable.specs.RuleFacts.{rule_kept}
use Rattle.timetable.specs.Table.{most_hops, hop_at}

module _ (hs : List Hop) (kept : keeps hs ≡ true) where
  -- a running hop
  module _ (i : ℕ) (h : Hop) (at : slice_get hs i ≡ Some h) (runs : h.runs ≡ true) where
    pub limits_at : Limits h
    limits_at = (rule_kept hs kept).limits i h at runs

    pub departs_before : h.departure < h.arrival
    departs_before = limits_at.forward

    pub arrives_by : h.arrival ≤ 172800
    arrives_by = limits_at.by_the_end

  -- two neighbours
  module _ (i : ℕ) (g h : Hop) (at : slice_get hs i ≡ Some g) (next : slice_get hs (suc i) ≡ Some h) where
    pub trip_goes_on : (h.trip ≡ g.trip) ⊎ (h.trip ≡ g.trip + 1)
    trip_goes_on = (rule_kept hs kept).goes_on i g h at next

    module _ (same : h.trip ≡ g.trip) (first : g.runs ≡ true) (second : h.runs ≡ true) where
      pub meet_at_stop : g.to ≡ h.from
      meet_at_stop = ((rule_kept hs kept).meet i g h at next same first second).0

      pub meet_in_time : g.arrival ≤ h.departure
      meet_in_time = ((rule_kept hs kept).meet i g h at next same first second).1

-- a hop that a timetable answers stands in its list
pub hop_at_nth : (hs : List Hop) (place : ℕ) (h : Hop) → hop_at hs place ≡ Some h → slice_get hs place ≡ Some h
hop_at_nth hs place h e = go (ltb place most_hops) e
  where
    go : (b : Bool) → cond b (slice_get hs place) None ≡ Some h → slice_get hs place ≡ Some h
    go true p = p
    go false p = let z : ◌≡◌ {A = ℕ} 0 1 = cc in absurd (omega arith)
