use Rattle.std.proofs.Common.{reverse, subst, arith}
use Rattle.std.proofs.lemmas.List.{length-reverse}
use Rattle.journal_laws.specs.Laws.{Holds, IsBounded}
use Rattle.journal_replay.proofs.hall.PlayedMachine.journal_len.Goals as goal

pub returns-clause-bound : goal.returns-clause-bound
returns-clause-bound g c =
    let hall = c.args.self.now in
    let law = subst (Holds IsBounded) c.plan.ensures c.is_bounded.ensures in
    omega (arith, law (reverse hall.journal.entries) hall.legal, length-reverse hall.journal.entries)
