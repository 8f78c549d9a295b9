-- The hop at a place that a timetable answers, and hops tested one by one.
use Rattle.std.proofs.Common.{◌≡◌, ℕ, ◌+◌, ◌<◌, ◌≤◌, Bool, true, false, not, List, length, get_or, Some, Option, refl, ap, ◌∙◌, sym, subst, below_more, arith, length-take, get_or-take}
use Rattle.timetable.specs.declared.hops.Hop.{Hop}
use Rattle.timetable.specs.Table.{most_hops, hop_at}
use Rattle.timetable.proofs.Places.{hop_at_place}
use Rattle.journeys.specs.declared.leg.Leg.{Leg as SheetLeg}
use Rattle.journeys.specs.declared.leg.LegKind.{LegKind}
use Rattle.journeys.specs.declared.leg.LegKind.TheVariants.{Walk, Ride}
use Rattle.journeys.specs.Journey.{Setup, Place, hop_in, LegOk, RideOk}
use Rattle.journeys.specs.Scan.{no_hop}
use Rattle.journeys.specs.Traces.{spelled}
use Rattle.retrace.specs.Missteps.{leg_by, RunsUpTo, CanBoard, LeadsOn}
use Rattle.retrace.specs.Travels.{answered_hops}

module _ (hs : List Hop) (place : ℕ) (h : place < length (answered_hops hs)) where
  pub place_small : place < most_hops
  place_small = omega (arith, length-take most_hops hs)

  pub hop_there : hop_at hs place ≡ Some (get_or (answered_hops hs) place no_hop)
  hop_there =
      let small = place_small in
      let within : place < length hs = omega (arith, length-take most_hops hs) in
      sym (hop_at_place hs place no_hop small within) ∙ ap Some (sym (get_or-take most_hops hs place no_hop small))

  pub hop_read : (hop : Hop) (o : Option Hop) → o ≡ hop_at hs place → o ≡ Some hop → hop ≡ get_or (answered_hops hs) place no_hop
  hop_read hop o p q = let t = hop_there in cc

is_so : (b : Bool) → not b ≡ false → b ≡ true
is_so true e = refl
is_so false e = cc

module _ {S : Type 0} (w : Setup S) where
  -- one hop more runs, and is of the trip
  pub runs_more : (a j : ℕ) (h first : Hop) → RunsUpTo w a j → h ≡ hop_in w j → first ≡ hop_in w a → not h.runs ≡ false → h.trip ≡ first.trip → RunsUpTo w a (j + 1)
  runs_more a j h first r is start runs trip =
      let here : ((hop_in w j).runs ≡ true) × ((hop_in w j).trip ≡ (hop_in w a).trip) =
      (ap (λ x. x.runs) (sym is) ∙ is_so h.runs runs, ap (λ x. x.trip) (sym is) ∙ trip ∙ ap (λ x. x.trip) start) in
      λ k from below. below_more (λ n. a ≤ n → ((hop_in w n).runs ≡ true) × ((hop_in w n).trip ≡ (hop_in w a).trip)) j (λ n b f. r n f b) (λ _. here) k below from

  ride_spelt : (kind : LegKind) (row first last : ℕ) → kind ≡ Ride → ◌≡◌ {A = SheetLeg} (record { row = row; kind = kind; first = first; last = last }) (spelled row (leg_by kind first last))
  ride_spelt Walk row first last e = cc
  ride_spelt Ride row first last e = refl

  -- a ride that can be boarded leads on where all its hops run and are of one trip
  pub ride_leads_on : (p : Place S) (s : SheetLeg) (n : ℕ) → CanBoard w p s → RunsUpTo w s.first n → s.last < n → LeadsOn w p s
  ride_leads_on p s n b r h = record {
    spelt = ride_spelt s.kind s.row s.first s.last b.forth.0;
    follows =
        let ride : RideOk w p s.first s.last = record {
          forth = b.forth.1;
          is = b.is;
          here = b.here;
          later = b.later;
          running = λ j from upto. (r j from (omega arith)).0;
          one_trip = λ j from upto. (r j from (omega arith)).1;
        } in
        subst (λ (k : LegKind). LegOk w p (leg_by k s.first s.last)) (sym b.forth.0) ride;
  }
