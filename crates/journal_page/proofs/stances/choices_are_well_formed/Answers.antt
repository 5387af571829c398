-- The journal so far is legal, so what may follow it is well formed.
use Rattle.std.proofs.Common.{subst}
use Rattle.place_plan.specs.RulesOfJournals.WellFormed.{AllWellFormed}
use Rattle.journal_laws.specs.Laws.{Holds}
use Rattle.journal_page.proofs.StanceLemmas.{shown_well}
use Rattle.journal_page.proofs.stances.choices_are_well_formed.Goals as goal

pub returns : goal.returns
returns c =
    shown_well c.args.states.now.plan.now _ c.args.by c.args.next.now
    (subst (Holds AllWellFormed) c.plan.ensures c.is_well_formed.ensures) c.args.states.now.legal c.requires
