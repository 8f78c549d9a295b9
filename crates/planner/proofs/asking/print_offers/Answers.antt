use Rattle.std.proofs.Common.{true, sym, ap, ◌∙◌, subst}
use Rattle.std.specs.Result.{IsOk}
use Rattle.short_list.specs.Items.{items}
use Rattle.planner.proofs.Handing.{rows_written}
use Rattle.planner.proofs.asking.print_offers.Goals as goal

pub unwrap-bytes-requires : goal.unwrap-bytes-requires
unwrap-bytes-requires g c =
    subst IsOk (sym (c.write.ensures.answer ∙ ap (λ o. o.answer) (rows_written (items c.args.offers.now) c.as_slice.result.now c.args.out.now.sheet.now (c.as_slice.ensures ∙ c.rows_of.ensures) c.requires.good c.requires.sheet_fits))) (λ i. true)
