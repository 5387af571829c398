use Rattle.std.proofs.Common.{ap, ◌∙◌}
use Rattle.action_script.specs.Forms.Uses.{naming_by}
use Rattle.name_uses.proofs.DeclaredMore.{declared_more}
use Rattle.name_uses.proofs.declared_words.declared_among.Goals as goal

pub loop-index-preserved : goal.loop-index-preserved
loop-index-preserved c =
    let now = c.naming_by-before.ensures ∙ ap (naming_by c.loop-index.before) c.part_at.ensures in
    declared_more c.loop-index.before c.naming_by-before.result c.args.parts.now c.args.fields.now c.loop-index.index _
    c.loop-index.words.items c.push_declared.new.words.items _ c.loop-index-test.true now c.in_ok-push_declared.ensures
    c.loop-index.invariant
