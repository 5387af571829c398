use Rattle.journal_text.proofs.OnTexts.WellNamed.{tells_own_names}
use Rattle.journal_text.proofs.texts.naming.is_well_named.Goals as goal

pub returns-clause-own : goal.returns-clause-own
returns-clause-own c = tells_own_names c.args.plan.now c.is_closed.ensures c.tells_apart.result c.tells_apart.ensures
