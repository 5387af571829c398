use Rattle.std.proofs.Common.{◌≡◌, ◌-◌, length}
use Rattle.journal_text.specs.Texts.Text.{object_name}
use Rattle.journal_text.specs.Texts.Naming.{index_among}
use Rattle.journal_text.proofs.texts.name_tokens.object_in.Given as goal

abbrev pub invariant-loop-object : goal.invariant-loop-object
invariant-loop-object l =
    index_among (object_name l.plan) l.word l.object (length l.plan.objects - l.object)
    ≡ index_among (object_name l.plan) l.word 0 (length l.plan.objects)
