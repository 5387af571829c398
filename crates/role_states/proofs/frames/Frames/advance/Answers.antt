use Rattle.std.proofs.Common.{◌∷◌, subst, sym}
use Rattle.role_states.specs.inner.Standing.{StandsFor}
use Rattle.role_states.proofs.Keeping.{steps_keep}
use Rattle.role_states.proofs.frames.Frames.advance.Goals as goal

pub returns-clause-keeps : goal.returns-clause-keeps
returns-clause-keeps c = λ plan past e nests s w.
    subst (StandsFor plan (e ∷ past)) (sym c.step.ensures)
    (steps_keep plan nests past e c.args.by c.args.value c.args.self.now c.requires.known s w)
