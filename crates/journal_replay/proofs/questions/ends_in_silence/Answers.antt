use Rattle.std.proofs.Common.{◌∙◌, ◌&&◌, ap, ap₂}
use Rattle.journal_replay.specs.inner.Composed.{tells_undone}
use Rattle.journal_replay.proofs.Composing.{silence_told}
use Rattle.journal_replay.proofs.questions.ends_in_silence.Goals as goal

pub returns : goal.returns
returns c =
    λ past same.
    c.are_both.ensures ∙ ap₂ (λ a b. a && b) (c.tells_undone.ensures ∙ ap tells_undone same) c.has_another.ensures
    ∙ silence_told c.args.plan.now past c.args.place
