use Rattle.std.proofs.Common.{◌+◌, ◌≤◌}
use Rattle.short_list.specs.Items.{items}
use Rattle.journeys.specs.Selection.{best_offers, price_bound}
use Rattle.scan.specs.Chains.{labels_in}
use Rattle.planner.proofs.Picking.{below, Selected}
use Rattle.planner.proofs.selection.select.Given as goal

-- what costs less than the bound is still to be taken
abbrev pub invariant-loop-offer : goal.invariant-loop-offer
invariant-loop-offer g l =
    Selected 32 (best_offers (g.F.Fare.model l.fare) l.destination (labels_in l.labels)) (below (g.F.Fare.model l.fare) l.destination (labels_in l.labels) l.bound) l.count (items l.offers)
    × (l.count + l.bound ≤ price_bound)

abbrev pub decreases-loop-offer : goal.decreases-loop-offer
decreases-loop-offer g l = l.bound
