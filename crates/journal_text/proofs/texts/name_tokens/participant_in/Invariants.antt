use Rattle.std.proofs.Common.{◌≡◌, ◌-◌, length}
use Rattle.journal_text.specs.Texts.Text.{participant_name}
use Rattle.journal_text.specs.Texts.Naming.{index_among}
use Rattle.journal_text.proofs.texts.name_tokens.participant_in.Given as goal

abbrev pub invariant-loop-by : goal.invariant-loop-by
invariant-loop-by l =
    index_among (participant_name l.plan) l.word l.by (length l.plan.participants - l.by)
    ≡ index_among (participant_name l.plan) l.word 0 (length l.plan.participants)
