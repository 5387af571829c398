use Rattle.std.proofs.Common.{◌∷◌, subst, sym}
use Rattle.action_endings.specs.inner.KeptEndings.{StandsFor}
use Rattle.action_endings.proofs.EndingsKept.{tried_keeps}
use Rattle.action_endings.proofs.endings.Endings.restored.Goals as goal

pub returns-clause-keeps : goal.returns-clause-keeps
returns-clause-keeps c = λ plan past e s r.
    subst (StandsFor plan (e ∷ past)) (sym c.try_next.ensures)
    (tried_keeps plan past e c.args.place c.args.well c.args.self.now c.requires.there c.requires.some s r)
