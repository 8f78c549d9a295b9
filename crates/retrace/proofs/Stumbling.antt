-- A leg handed out that stumbles does not lead on.
use Rattle.std.proofs.Common.{◌≡◌, ℕ, sym, ap, ◌∙◌, arith}
use Rattle.std.proofs.lemmas.Bool.{true≢false}
use Rattle.journeys.specs.declared.leg.Leg.{Leg as SheetLeg}
use Rattle.journeys.specs.declared.leg.LegKind.{LegKind}
use Rattle.journeys.specs.declared.leg.LegKind.TheVariants.{Walk, Ride}
use Rattle.journeys.specs.Journey.{Setup, Place, LegOk}
use Rattle.journeys.specs.Traces.{spelled}
use Rattle.retrace.specs.declared.misstep.Misstep.{Misstep}
use Rattle.retrace.specs.declared.misstep.Misstep.TheVariants.{TwoPaths, SecondWalk, NoPath, PathElsewhere, Backward, NoHop, HopElsewhere, Departed, Halted, OtherTrip}
use Rattle.retrace.specs.Missteps.{leg_by, leg_meant, Stumbles}

module _ {S : Type 0} (w : Setup S) (p : Place S) where
  abbrev leg_of : LegKind → ℕ → ℕ → ℕ → SheetLeg
  leg_of kind row first last = record { row = row; kind = kind; first = first; last = last }

  no_walk : (row first last : ℕ) (why : Misstep) → Stumbles w p (leg_of Walk row first last) why → leg_of Walk row first last ≡ spelled row (leg_by Walk first last) → LegOk w p (leg_by Walk first last) → ⊥
  no_walk row first last TwoPaths h e o = h.1 (sym (ap (λ s. s.last) e))
  no_walk row first last SecondWalk h e o = true≢false (sym h.1 ∙ o.rested)
  no_walk row first last NoPath h e o = omega (arith, h.2, o.is)
  no_walk row first last PathElsewhere h e o = h.3 o.here
  no_walk row first last Backward h e o = cc
  no_walk row first last NoHop h e o = cc
  no_walk row first last HopElsewhere h e o = cc
  no_walk row first last Departed h e o = cc
  no_walk row first last (Halted j) h e o = let k = h.0.boards.forth.0 in cc
  no_walk row first last (OtherTrip j) h e o = let k = h.0.boards.forth.0 in cc

  no_ride : (row first last : ℕ) (why : Misstep) → Stumbles w p (leg_of Ride row first last) why → LegOk w p (leg_by Ride first last) → ⊥
  no_ride row first last TwoPaths h o = cc
  no_ride row first last SecondWalk h o = cc
  no_ride row first last NoPath h o = cc
  no_ride row first last PathElsewhere h o = cc
  no_ride row first last Backward h o = omega (arith, h.1, o.forth)
  no_ride row first last NoHop h o = omega (arith, h.1, o.is)
  no_ride row first last HopElsewhere h o = h.2 o.here
  no_ride row first last Departed h o = omega (arith, h.3, o.later)
  no_ride row first last (Halted j) h o = true≢false (sym (o.running j h.0.from h.0.upto) ∙ h.1)
  no_ride row first last (OtherTrip j) h o = h.2 (o.one_trip j h.0.from h.0.upto)

  by_kind : (kind : LegKind) (row first last : ℕ) (why : Misstep) → Stumbles w p (leg_of kind row first last) why → leg_of kind row first last ≡ spelled row (leg_by kind first last) → LegOk w p (leg_by kind first last) → ⊥
  by_kind Walk row first last why h e o = no_walk row first last why h e o
  by_kind Ride row first last why h e o = no_ride row first last why h o

  pub stumbles_not : (s : SheetLeg) (why : Misstep) → Stumbles w p s why → s ≡ spelled s.row (leg_meant s) → LegOk w p (leg_meant s) → ⊥
  stumbles_not s why h e o = by_kind s.kind s.row s.first s.last why h e o
