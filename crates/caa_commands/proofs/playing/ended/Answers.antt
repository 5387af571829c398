use Rattle.std.proofs.Common.{◌++◌, refl, ap, ◌∙◌}
use Rattle.journal_text.specs.Texts.Text.{entries_text}
use Rattle.journal_text.proofs.OnTexts.BlockLemmas.{text_behind}
use Rattle.caa_commands.proofs.playing.ended.Goals as goal

pub returns-in-Ok-clause-ends : goal.returns-in-Ok-clause-ends
returns-in-Ok-clause-ends g c =
    let plan = c.args.plan in
    let journal = c.args.journal.entries in (
      c.has_failed_play.ensures,
      (
        ap (λ r. entries_text plan journal ++ r) c.in-Ok.ensures ∙ text_behind plan journal c.args.seens.now.seens,
        (refl, (c.requires.named, c.requires.entries)),
      ),
    )
