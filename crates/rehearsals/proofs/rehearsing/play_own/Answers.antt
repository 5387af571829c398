use Rattle.rehearsals.proofs.rehearsing.play_own.Goals as goal

pub returns-clause-drilled : goal.returns-clause-drilled
returns-clause-drilled c = c.in_ok-told.ensures.drilling.drilled
