use Rattle.std.proofs.Common.{◌∷◌, subst, sym}
use Rattle.role_states.specs.inner.Standing.{StandsFor}
use Rattle.role_states.proofs.Keeping.{goes_keeps}
use Rattle.role_states.proofs.frames.Frames.leave.Goals as goal

pub returns-clause-keeps : goal.returns-clause-keeps
returns-clause-keeps c = λ plan past e nests s w.
    subst (StandsFor plan (e ∷ past)) (sym c.pop.ensures)
    (goes_keeps plan nests past e c.args.by c.args.self.now c.requires s w)
