use Rattle.std.proofs.Common.{◌+◌, drop, sym, ap, ◌∙◌, arith}
use Rattle.graph_maker.specs.Refusals.{refused_from}
use Rattle.graph_maker.proofs.Refusing.{line_passed}
use Rattle.graph_maker.proofs.refusals.first_refused.Goals as goal

pub loop-line-preserved : goal.loop-line-preserved
loop-line-preserved c =
    let all = c.lines-line-items.result.now in
    let i = c.loop-line.line-index in
    let line = c.line-item.result in
    let passed = c.loop-line.passed in
    let script = c.args.script.now in
    let few = c.declared_by-passed.ensures.few in
    let before = c.loop-line.invariant.0 in (
      omega (arith, few, before),
      ap (λ k. refused_from script c.args.most (passed + k) (drop (i + 1) all)) c.declared_by-passed.ensures.value
          ∙ line_passed script c.args.most passed i all line (omega (arith, c.loop-line-test.true)) c.line-item.is
          (sym c.cause_of.ensures ∙ c.in_default.is)
          ∙ c.loop-line.invariant.1,
    )
