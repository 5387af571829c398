use Rattle.std.proofs.Common.{◌≡◌, length, bytes_eq, false, arith, sym, ap, ◌∙◌}
use Rattle.journal_text.specs.Texts.Text.{participant_name}
use Rattle.journal_text.proofs.OnTexts.WordLemmas.{index-passed}
use Rattle.journal_text.proofs.texts.name_tokens.participant_in.Goals as goal

pub loop-by-preserved : goal.loop-by-preserved
loop-by-preserved c =
    let other : bytes_eq (participant_name c.args.plan.now c.loop-by.by) c.args.word.now ≡ false =
    ap (λ name. bytes_eq name c.args.word.now) (sym c.participant_name.ensures) ∙ sym c.eq.ensures
    ∙ c.if-eq.false in
    index-passed (participant_name c.args.plan.now) c.args.word.now c.loop-by.by (length c.args.plan.now.participants)
    (omega arith) other ∙ c.loop-by.invariant
