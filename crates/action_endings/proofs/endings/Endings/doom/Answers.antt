use Rattle.std.proofs.Common.{◌∙◌, ◌∷◌, subst, sym, ap}
use Rattle.action_endings.specs.inner.KeptEndings.{doomed_kept, StandsBut}
use Rattle.action_endings.proofs.EndingsKept.{marked_keeps}
use Rattle.action_endings.proofs.RightAnswers.{dooms_inside}
use Rattle.action_endings.proofs.endings.Endings.doom.Goals as goal

pub returns-clause-dooms : goal.returns-clause-dooms
returns-clause-dooms c = λ p.
    ap (λ rows. doomed_kept c.args.plan.now rows p) c.mark.ensures
    ∙ dooms_inside c.args.plan.now c.args.place c.args.self.now c.requires p

pub returns-clause-keeps : goal.returns-clause-keeps
returns-clause-keeps c = λ past e s r.
    subst (StandsBut c.args.plan.now (e ∷ past) c.args.place) (sym c.mark.ensures)
    (marked_keeps c.args.plan.now past e c.args.place c.args.self.now c.requires s r)
