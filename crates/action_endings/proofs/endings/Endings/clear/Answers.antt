use Rattle.std.proofs.Common.{subst, sym}
use Rattle.action_endings.specs.inner.KeptEndings.{StandsFor}
use Rattle.action_endings.proofs.EndingsKept.{cleared_keeps}
use Rattle.action_endings.proofs.endings.Endings.clear.Goals as goal

pub returns-clause-keeps : goal.returns-clause-keeps
returns-clause-keeps c = λ plan past s none.
    subst (StandsFor plan past) (sym c.drop_verdicts.ensures) (cleared_keeps plan past c.args.place c.args.self.now c.requires s none)
