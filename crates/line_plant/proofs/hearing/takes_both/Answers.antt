use Rattle.line_plant.proofs.ComingNext.{not_behind}
use Rattle.line_plant.proofs.hearing.takes_both.Goals as goal

pub returns-then-takes-clause-other : goal.returns-then-takes-clause-other
returns-then-takes-clause-other g c is =
    not_behind _ _ _ _ _ c.args.front.now c.args.back.now (c.takes.ensures.taken c.if-takes.true) (c.takes.ensures.unfailed c.if-takes.true)
    (c.takes-then-takes.ensures.other is)
