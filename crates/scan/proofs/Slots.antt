-- What one label has to do with another, with a hop or with a footpath, asks for one stop, and so for one slot. Assumes nothing.
use Rattle.std.proofs.Common.{◌≡◌, ℕ, suc, ◌==◌, ◌&&◌, ◌||◌, not, Bool, true, false, cond, List, sym, refl, ap, ◌∙◌, nat_le}
use Rattle.std.proofs.Math.Bool.{and-false}
use Rattle.std.proofs.lemmas.Bool.{eqb-true, eq-eqb}
use Rattle.timetable.specs.declared.hops.Hop.{Hop}
use Rattle.journeys.specs.declared.label.Label.{Label}
use Rattle.journeys.specs.declared.label.Passenger.{Passenger}
use Rattle.journeys.specs.declared.network.Footpath.{Footpath}
use Rattle.journeys.specs.Fare.{FareModel}
use Rattle.journeys.specs.Labels.{came_on_foot, covers, label_by_walk, passenger}
use Rattle.journeys.specs.Runs.{on}
use Rattle.journeys.specs.Scan.{offer, seat, board, walk}
use Rattle.scan.specs.Chains.{slot}

pub other_stop : (a b : ℕ) → (slot a == slot b) ≡ false → (a == b) ≡ false
other_stop a b t = go (a == b) refl
  where
    go : (x : Bool) → (a == b) ≡ x → x ≡ false
    go true e = sym (eq-eqb (slot a) (slot b) (ap slot (eqb-true a b e))) ∙ t
    go false e = refl

module _ {S : Type 0} (f : FareModel S) where
  -- a label covers only those of its slot
  pub covers_none : (c l : Label S) → (slot l.stop == slot c.stop) ≡ false → covers f l c ≡ false
  covers_none c l t =
      ap (λ b. b && (nat_le l.time c.time && (nat_le l.rides c.rides && (f.covers l.state c.state && ((not (came_on_foot l.way) || came_on_foot c.way) && (not (l.rides == 0) || c.rides == 0))))))
      (other_stop l.stop c.stop t)

  -- a label boards only hops from a stop of its slot
  pub boards_none : (h : Hop) (r k i j : ℕ) (l : Label S) (ps : List (Passenger S)) → (slot l.stop == slot h.from) ≡ false → board f r k i h j l ps ≡ on ps
  boards_none h r k i j l ps t =
      ap (λ b. cond b (seat f r i (passenger f i j l) ps) (on ps))
      (ap (λ b. (suc l.rides == k) && (b && nat_le l.time h.departure)) (other_stop l.stop h.from t) ∙ and-false (suc l.rides == k))

  -- a footpath leads on only from the labels of the slot that it begins in
  pub walks_none : (room j : ℕ) (l : Label S) (i : ℕ) (p : Footpath) (ls : List (Label S)) → (slot p.from == slot l.stop) ≡ false → walk f room j l i p ls ≡ on ls
  walks_none room j l i p ls t = ap (λ b. cond b (offer f room (label_by_walk j l i p) ls) (on ls)) (other_stop p.from l.stop t)
