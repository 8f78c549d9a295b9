use Rattle.std.proofs.Common.{refl}
use Rattle.std.proofs.lemmas.Result.{err_from_is_err_and}
use Rattle.board_replay.specs.Files.{loaded_from}
use Rattle.board_replay.proofs.Taking.{load_goes_on, load_fails, table_goes_on, table_fails}
use Rattle.board_replay.proofs.replaying.take_line.Goals as goal

pub returns-in-Nothing : goal.returns-in-Nothing
unfolding loaded_from
returns-in-Nothing c = λ begun events. rw c.in-Nothing.is refl

pub returns-in-Case : goal.returns-in-Case
unfolding loaded_from
returns-in-Case c = rw c.in-Case.is (refl, refl, λ begun events. refl)

pub returns-in-Entry : goal.returns-in-Entry
unfolding loaded_from
returns-in-Entry c = rw c.in-Entry.is (refl, refl, λ begun events. refl)

pub returns-in-Claim : goal.returns-in-Claim
unfolding loaded_from
returns-in-Claim c = rw c.in-Claim.is (refl, refl, λ begun events. refl)

pub returns-in_err-take-in-Load : goal.returns-in_err-take-in-Load
returns-in_err-take-in-Load c =
    let p = err_from_is_err_and c.from_residual.result c.from_residual.ensures.1 in
    rw (c.in-Load.is, p.1, p.2) (load_fails _ _ c.in-Load.load c.in_err-take-in-Load.field-0.0 c.in_err-take-in-Load.ensures)

pub returns-in_err-take_table-in-Table : goal.returns-in_err-take_table-in-Table
returns-in_err-take_table-in-Table c =
    let p = err_from_is_err_and c.from_residual-in_err-take_table-in-Table.result c.from_residual-in_err-take_table-in-Table.ensures.1 in
    rw (c.in-Table.is, p.1, p.2) (table_fails _ _ c.in-Table.table.starts c.in-Table.table.prices.items c.in_err-take_table-in-Table.field-0.0 c.in_err-take_table-in-Table.ensures)

pub returns-in_ok-take-in-Load : goal.returns-in_ok-take-in-Load
returns-in_ok-take-in-Load c = rw c.in-Load.is (load_goes_on _ _ c.in-Load.load c.in_ok-take-in-Load.field-0 c.in_ok-take-in-Load.ensures)

pub returns-in_ok-take_table-in-Table : goal.returns-in_ok-take_table-in-Table
returns-in_ok-take_table-in-Table c = rw c.in-Table.is (table_goes_on _ _ c.in-Table.table.starts c.in-Table.table.prices.items c.in_ok-take_table-in-Table.field-0 c.in_ok-take_table-in-Table.ensures)
