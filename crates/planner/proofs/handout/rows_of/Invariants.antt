use Rattle.std.proofs.Common.{◌≡◌, map, take}
use Rattle.short_list.specs.Items.{items}
use Rattle.planner.specs.Handout.{row_of}
use Rattle.planner.proofs.handout.rows_of.Given as goal

-- the offers before this one have their rows
abbrev pub invariant-loop-offer : goal.invariant-loop-offer
invariant-loop-offer l = items l.rows ≡ map row_of (take l.offer-index (items l.offers))
