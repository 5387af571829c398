use Rattle.std.proofs.Common.{◌≡◌, bytes_eq, false, arith, sym, ap, ◌∙◌}
use Rattle.place_plan.specs.Plans.Places.{graph_at, exception_name}
use Rattle.journal_text.proofs.OnTexts.WordLemmas.{index-passed}
use Rattle.journal_text.proofs.texts.name_tokens.exception_in.Goals as goal

pub loop-exception-preserved : goal.loop-exception-preserved
loop-exception-preserved c =
    let other : bytes_eq (exception_name c.args.plan.now c.args.graph c.loop-exception.exception) c.args.word.now
    ≡ false =
    ap (λ name. bytes_eq name c.args.word.now) (sym c.exception_name.ensures) ∙ sym c.eq.ensures ∙ c.if-eq.false in
    index-passed (exception_name c.args.plan.now c.args.graph) c.args.word.now c.loop-exception.exception
    ((graph_at c.args.plan.now c.args.graph).count) (omega arith) other ∙ c.loop-exception.invariant
