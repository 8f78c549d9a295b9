-- What a timetable answers about its list, and how a hop list is opened.
-- Assumes nothing.
use Rattle.std.specs.Prelude.{ℕ, zero, suc, ◌+◌, min, Bool, cond, not, List, [], ◌∷◌, length, take, Some, None, Ok, Err, Option, Result, nat_lt}
use Rattle.std.specs.List.{slice_get}
use Rattle.timetable.specs.declared.hops.Hop.{Hop}
use Rattle.timetable.specs.declared.refusals.Refusal.{Refusal}
use Rattle.timetable.specs.declared.refusals.Refusal.TheVariants.{BrokenRule}
use Rattle.timetable.specs.Refusals.{Cause, cause}
use Rattle.timetable.specs.Rule.{keeps, Rule}

-- counts are answered up to here, and places below it
abbrev pub most_hops : ℕ
most_hops = 65536

-- a count as it is answered
abbrev pub held : ℕ → ℕ
held n = min n most_hops

-- how many hops there are
abbrev pub count_of : List Hop → ℕ
count_of hs = held (length hs)

-- the last hop of a list that stands behind another hop, or behind none
abbrev pub last_after : Option Hop → List Hop → Option Hop
last_after before [] = before
last_after before (h ∷ hs) = last_after (Some h) hs

-- one more than the number of the last trip
abbrev pub trips_upto : Option Hop → ℕ
trips_upto None = 0
trips_upto (Some h) = h.trip + 1

-- how many trips there are: they are numbered from 0 without a gap
abbrev pub trips_of : List Hop → ℕ
trips_of hs = held (trips_upto (last_after None hs))

-- the hop at a place; nothing past the end, or from 65,536 on
abbrev pub hop_at : List Hop → ℕ → Option Hop
hop_at hs place = cond (nat_lt place most_hops) (slice_get hs place) None

-- the least number below n that passes a test, or n
abbrev pub least : (ℕ → Bool) → ℕ → ℕ
least test zero = 0
least test (suc n) = cond (test 0) 0 (suc (least (λ k. test (suc k)) n))

-- the least place p such that the first p + 1 hops break the rule
abbrev pub first_break : List Hop → ℕ
first_break hs = least (λ p. not (keeps (take (suc p) hs))) (length hs)

-- where a list breaks the rule, if it does
abbrev pub break_of : List Hop → Option ℕ
break_of hs = cond (keeps hs) None (Some (first_break hs))

-- opening a list: exactly the lists that keep the rule are taken, as they are
abbrev pub open_list : List Hop → Result (List Hop) Refusal
open_list hs = cond (keeps hs) (Ok hs) (Err (BrokenRule (first_break hs)))

-- what a call answers that leaves something new behind, or refuses
abbrev pub told : {X : Type 0} → Result X Refusal → Result (Unit {0}) Refusal
told (Ok x) = Ok tt
told (Err e) = Err e

-- what such a call leaves: a refusal alters nothing
abbrev pub left : {X : Type 0} → X → Result X Refusal → X
left old (Ok new) = new
left old (Err e) = old

-- an answer, told by what the value in it means
abbrev pub meant : {X Y : Type 0} → (X → Y) → Result X Refusal → Result Y Refusal
meant f (Ok x) = Ok (f x)
meant f (Err e) = Err e

-- the first `place` hops keep the rule, and with one more they do not
pub record BreaksAt (hs : List Hop) (place : ℕ) : Type 0 where
  pub kept : Rule (take place hs)
  pub broken : Rule (take (suc place) hs) → ⊥

-- why hops are not opened, by its cause
pub data NotOpened (hs : List Hop) : Cause → Type 0 where
  breaks : (place : ℕ) → BreaksAt hs place → NotOpened hs record { number = 1; values = place ∷ [] }

-- what a search for a break says of the hops
abbrev pub Searched : List Hop → Option ℕ → Type 0
Searched hs None = Rule hs
Searched hs (Some place) = NotOpened hs (cause (BrokenRule place))

-- what the answer to opening says of the hops: they keep the rule, or the cause stands
abbrev pub Opened : {X : Type 0} → List Hop → Result X Refusal → Type 0
Opened hs (Ok done) = Rule hs
Opened hs (Err refusal) = NotOpened hs (cause refusal)
