use Rattle.name_uses.proofs.Alike.{too_few}
use Rattle.name_uses.proofs.renaming.are_renamed.Goals as goal

pub returns-in_default : goal.returns-in_default
returns-in_default c =
    too_few c.args.thing c.args.word.now c.args.names.now c.args.others.now c.args.old.now c.loop-before.rest.now _ c.loop-before.before-index
    c.loop-before-test.true c.in_default.ensures.cases c.loop-before.invariant
