use Rattle.std.proofs.Common.{◌∷◌, subst, sym}
use Rattle.action_endings.specs.inner.KeptEndings.{StandsFor}
use Rattle.action_endings.proofs.EndingsKept.{turned_back_keeps}
use Rattle.action_endings.proofs.endings.Endings.start_undo.Goals as goal

pub returns-clause-keeps : goal.returns-clause-keeps
returns-clause-keeps c = λ plan past e s t.
    subst (StandsFor plan (e ∷ past)) (sym c.turn_back.ensures)
    (turned_back_keeps plan past e c.args.place c.args.self.now c.requires s t)
