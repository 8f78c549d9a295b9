-- Two boards compared after their logs: whether their sheets are the same bytes, and what that means.
-- Assumes nothing.
use Rattle.std.specs.Prelude.{Bool, List, Result}
use Rattle.journeys.specs.declared.question.Question.{Question}
use Rattle.planner.specs.declared.refused.Refused.{Refused}
use Rattle.planner.specs.Comparing.{compared as compared_sheets, SameBest}
use Rattle.planner.specs.Outcome.{Outcome}
use Rattle.day_planner.specs.declared.entry.Entry.{Entry}
use Rattle.day_planner.specs.Log.{Basis, hops_after}
use Rattle.day_planner.specs.Promise.{journeys_over}

-- two outcomes compared
abbrev pub compared : {S R : Type 0} → Outcome S → Outcome R → Result Bool Refused
compared o p = compared_sheets o.answer o.left.sheet p.answer p.left.sheet

-- two questions after two logs have the same best offers
abbrev pub SameBestAfter : {K W L V : Type 0} → Basis K W → List Entry → Question → Basis L V → List Entry → Question → Type 0
SameBestAfter b log q c other p =
    SameBest (journeys_over b (hops_after b.hops log) q) q.destination q.rides
    (journeys_over c (hops_after c.hops other) p) p.destination p.rides
