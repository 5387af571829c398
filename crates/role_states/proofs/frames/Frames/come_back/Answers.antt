use Rattle.std.proofs.Common.{◌∷◌, subst, sym}
use Rattle.role_states.specs.inner.Standing.{StandsFor}
use Rattle.role_states.proofs.Keeping.{back_keeps}
use Rattle.role_states.proofs.frames.Frames.come_back.Goals as goal

pub returns-clause-keeps : goal.returns-clause-keeps
returns-clause-keeps c = λ plan past e nests s w.
    subst (StandsFor plan (e ∷ past)) (sym c.pop_and_step.ensures)
    (back_keeps plan nests past e c.args.by c.args.self.now c.requires.known s w)
