use Rattle.std.proofs.Common.{◌≡◌, ◌+◌, ◌-◌, true, get_or, ap, ◌∙◌, subst, arith}
use Rattle.rule_table.specs.Rules.{ticket_after}
use Rattle.rule_table.specs.Spans.{no_span, spanned}
use Rattle.rule_table.proofs.Spans.{LiesIn, lies_in, narrowed}
use Rattle.rule_table.proofs.table.RuleTable.rules_around.Goals as goal

pub returns : goal.returns
returns c = λ g e.
    let t = c.args.self.now in
    let rs = c.as_slice-rules.result.now in
    let all : spanned t.spans 0 rs ≡ true = ap (spanned t.spans 0) c.as_slice-rules.ensures ∙ t.known in
    narrowed c.args.ticket g e rs c.min.result c.min-end.result
    (λ j r h x is.
    let lies : LiesIn t.spans c.args.ticket (0 + j) = subst (λ k. LiesIn t.spans k (0 + j)) is (lies_in t.spans 0 rs all j r h x) in
    let here = ap (λ k. get_or t.spans k no_span) c.spot.ensures.is in
    let begin = ap (λ s. s.begin) here in
    let end = ap (λ s. s.end) here in
    (omega (arith, lies.0, lies.1, begin, end, h, c.min.ensures, c.min-end.ensures), omega (arith, lies.0, lies.1, begin, end, h, c.min.ensures, c.min-end.ensures)))
    (c.min-end.result - c.min.result) (omega (arith, c.min.ensures))
    ∙ ap (λ l. ticket_after l c.args.ticket g e) c.as_slice-rules.ensures
