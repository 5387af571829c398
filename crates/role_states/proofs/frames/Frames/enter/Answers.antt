use Rattle.std.proofs.Common.{◌∷◌, subst, sym}
use Rattle.role_states.specs.inner.Standing.{StandsFor}
use Rattle.role_states.proofs.Keeping.{comes_keeps}
use Rattle.role_states.proofs.frames.Frames.enter.Goals as goal

pub returns-clause-keeps : goal.returns-clause-keeps
returns-clause-keeps c = λ plan past e s w.
    subst (StandsFor plan (e ∷ past)) (sym c.push.ensures)
    (comes_keeps plan past e c.args.by c.args.place c.args.self.now c.requires.known s w)
