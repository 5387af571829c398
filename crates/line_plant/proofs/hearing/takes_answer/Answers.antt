use Rattle.line_plant.specs.Answers.{ended}
use Rattle.line_plant.proofs.ComingNext.{not_behind}
use Rattle.line_plant.proofs.hearing.takes_answer.Goals as goal

pub returns-then-takes-clause-other : goal.returns-then-takes-clause-other
returns-then-takes-clause-other g c is =
    not_behind _ _ _ _ _ c.args.word.now (ended c.args.number) (c.takes.ensures.taken c.if-takes.true)
    (c.takes.ensures.unfailed c.if-takes.true) (c.takes_number.ensures.other is)
