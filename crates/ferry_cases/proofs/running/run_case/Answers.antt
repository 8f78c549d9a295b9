use Rattle.std.proofs.Common.{◌≡◌, length, Err, refl, sym, ap, ◌∙◌, subst}
use Rattle.std.proofs.lemmas.List.{length-take-le}
use Rattle.std.proofs.lemmas.Result.{err_from_is_err_and}
use Rattle.planner.specs.Lent.{memory_of}
use Rattle.ferry_cases.specs.FerryCases.{asking_case, Prints}
use Rattle.ferry_cases.proofs.CasesRun.{asking_holds, printed, refused_there}
use Rattle.ferry_cases.proofs.running.run_case.Goals as goal

pub returns-in_err-answer : goal.returns-in_err-answer
returns-in_err-answer c =
    let given = c.input_of-given in
    let k = asking_case c.args.case in
    let labels : length c.over-store.result.labels.now ≡ given.result.labels = ap length c.over-store.ensures.labels ∙ length-take-le given.result.labels _ given.ensures.few_labels in
    let told = err_from_is_err_and c.from_residual.result c.from_residual.ensures.1 in
    subst (Prints k) (ap Err (sym told.2) ∙ sym told.1)
    (refused_there given.result.log.now given.result.question given.result.labels given.result.aboard _ labels (length-take-le given.result.aboard _ given.ensures.few_aboard) refl refl
    _ (memory_of c.ask_given.new.lent) c.in_err-answer.ensures.outcome k (asking_holds c.args.case) given.ensures.case c.in_err-answer.field-0.0 refl)

pub returns : goal.returns
returns c =
    let given = c.input_of-given in
    let k = asking_case c.args.case in
    let labels : length c.over-store.result.labels.now ≡ given.result.labels = ap length c.over-store.ensures.labels ∙ length-take-le given.result.labels _ given.ensures.few_labels in
    printed given.result.log.now given.result.question given.result.labels given.result.aboard _ labels (length-take-le given.result.aboard _ given.ensures.few_aboard) refl refl
    _ (memory_of c.ask_given.new.lent) c.in_ok-answer.ensures.outcome k (asking_holds c.args.case) given.ensures.case c.in_ok-answer.answer refl
    _ refl c.copy_from_slice.ensures.after c.copy_from_slice-2.ensures.after
