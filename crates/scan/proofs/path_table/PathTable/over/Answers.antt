use Rattle.std.proofs.Common.{◌≡◌, ℕ, suc, ◌-◌, ◌<◌, length, replicate, get_or, take, set, Some, None, Option, sym, subst, arith, drop-cons}
use Rattle.std.proofs.lemmas.List.{length-replicate, get_or-replicate, length-take}
use Rattle.scan.specs.Chains.{slots}
use Rattle.scan.proofs.PathTables.{no_path, taken, Built, none_built, one_built, all_built}
use Rattle.scan.proofs.path_table.PathTable.over.Goals as goal

pub loop-place-init : goal.loop-place-init
loop-place-init c =
    none_built (take slots c.args.paths.now) c.min-place.result (replicate slots None) (replicate slots None) (omega (arith, c.min-place.ensures, length-take slots c.args.paths.now))
    (length-replicate {A = Option ℕ} slots None) (length-replicate {A = Option ℕ} slots None) (λ k h. get_or-replicate slots k None None h)

pub loop-place-preserved : goal.loop-place-preserved
loop-place-preserved c =
    let paths = c.args.paths.now in
    let i = c.loop-place.place - 1 in
    let x = get_or paths i no_path in
    let first = c.loop-place.first in
    let inside : i < length paths = omega arith in
    let within : i < slots = omega arith in
    let here = taken paths i (slots - suc i) slots x (omega (arith, within)) (drop-cons paths i no_path inside) in
    subst (λ k. Built (take slots paths) i (set first k (Some i)) (set c.loop-place.next i (get_or first k None))) (sym c.slot-slot.ensures.is)
    (one_built (take slots paths) i c.loop-place.place x first c.loop-place.next (omega arith) within (omega (arith, c.slot-slot.ensures.is, c.slot-slot.ensures.within)) here c.loop-place.invariant)

pub invariant_of-result : goal.invariant_of-result
invariant_of-result c =
    let paths = c.args.paths.now in
    let all : c.loop-place.place ≡ 0 = omega arith in
    record { tabled = all_built paths c.loop-place.first c.loop-place.next (subst (λ i. Built (take slots paths) i c.loop-place.first c.loop-place.next) all c.loop-place.invariant) }
