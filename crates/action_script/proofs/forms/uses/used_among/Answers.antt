use Rattle.std.proofs.Common.{ap, ◌∙◌}
use Rattle.action_script.specs.Forms.Uses.{naming_by}
use Rattle.action_script.proofs.OnForms.NamedFrom.{used_more}
use Rattle.action_script.proofs.forms.uses.used_among.Goals as goal

pub loop-index-preserved : goal.loop-index-preserved
loop-index-preserved c =
    let now = c.naming_by-before.ensures ∙ ap (naming_by c.loop-index.before) c.part_at.ensures in
    used_more c.name_at-nest.result c.loop-index.before c.naming_by-before.result c.args.parts.now c.args.fields.now c.loop-index.index _
    c.loop-index.words.items c.push_used.new.words.items _ c.loop-index-test.true now c.in_ok-push_used.ensures c.loop-index.invariant
