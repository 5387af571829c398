use Rattle.std.proofs.Common.{◌≡◌, length, bytes_eq, false, arith, sym, ap, ◌∙◌}
use Rattle.journal_text.specs.Texts.Text.{object_name}
use Rattle.journal_text.proofs.OnTexts.WordLemmas.{index-passed}
use Rattle.journal_text.proofs.texts.name_tokens.object_in.Goals as goal

pub loop-object-preserved : goal.loop-object-preserved
loop-object-preserved c =
    let other : bytes_eq (object_name c.args.plan.now c.loop-object.object) c.args.word.now ≡ false =
    ap (λ name. bytes_eq name c.args.word.now) (sym c.object_name.ensures) ∙ sym c.eq.ensures ∙ c.if-eq.false in
    index-passed (object_name c.args.plan.now) c.args.word.now c.loop-object.object (length c.args.plan.now.objects)
    (omega arith) other ∙ c.loop-object.invariant
