-- Which legs are handed out as what: at most one list of legs is spelled out by a list of legs handed out.
use Rattle.std.proofs.Common.{◌≡◌, ℕ, zero, suc, List, [], ◌∷◌, ◌++◌, map, take, sym, refl, ap, ◌∙◌}
use Rattle.journeys.specs.declared.leg.Leg.{Leg as SheetLeg}
use Rattle.journeys.specs.Journey.{Leg, walk, ride}
use Rattle.journeys.specs.Traces.{spelled}
use Rattle.retrace.specs.Missteps.{SpellsOut, leg_meant}

spelled_meant : (row : ℕ) (l : Leg) → leg_meant (spelled row l) ≡ l
spelled_meant row (walk i) = refl
spelled_meant row (ride a b) = refl

pub meant_of : (hs : List SheetLeg) (ls : List Leg) → SpellsOut hs ls → ls ≡ map leg_meant hs
meant_of [] [] o = refl
meant_of [] (l ∷ ls) o = absurd o
meant_of (h ∷ hs) [] o = absurd o
meant_of (h ∷ hs) (l ∷ ls) o =
    let first : l ≡ leg_meant h = sym (ap leg_meant o.0 ∙ spelled_meant h.row l) in
    let rest = meant_of hs ls o.1 in
    λ i. first i ∷ rest i

pub same_legs : (hs : List SheetLeg) (ls ms : List Leg) → SpellsOut hs ls → SpellsOut hs ms → ls ≡ ms
same_legs hs ls ms o p = meant_of hs ls o ∙ sym (meant_of hs ms p)

pub spelled_push : (hs : List SheetLeg) (ls : List Leg) (h : SheetLeg) (l : Leg) → SpellsOut hs ls → h ≡ spelled h.row l → SpellsOut (hs ++ (h ∷ [])) (ls ++ (l ∷ []))
spelled_push [] [] h l o e = (e, tt)
spelled_push [] (m ∷ ls) h l o e = absurd o
spelled_push (g ∷ hs) [] h l o e = absurd o
spelled_push (g ∷ hs) (m ∷ ls) h l o e = (o.0, spelled_push hs ls h l o.1 e)

-- the last one is spelled as the leg that it stands for
pub spelled_last : (hs : List SheetLeg) (h : SheetLeg) → SpellsOut (hs ++ (h ∷ [])) (map leg_meant (hs ++ (h ∷ []))) → h ≡ spelled h.row (leg_meant h)
spelled_last [] h o = o.0
spelled_last (g ∷ hs) h o = spelled_last hs h o.1

pub spelled_take : (n : ℕ) (hs : List SheetLeg) (ls : List Leg) → SpellsOut hs ls → SpellsOut (take n hs) (take n ls)
spelled_take zero hs ls o = tt
spelled_take (suc n) [] [] o = tt
spelled_take (suc n) [] (l ∷ ls) o = absurd o
spelled_take (suc n) (h ∷ hs) [] o = absurd o
spelled_take (suc n) (h ∷ hs) (l ∷ ls) o = (o.0, spelled_take n hs ls o.1)
