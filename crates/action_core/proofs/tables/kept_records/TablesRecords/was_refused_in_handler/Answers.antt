use Rattle.std.proofs.Common.{◌∙◌, reverse, sym, subst, ap}
use Rattle.journal_laws.proofs.PlayablePlan.{is_playable}
use Rattle.action_core.specs.declared.person.Person.{Person}
use Rattle.action_core.proofs.Answering.{known_inside}
use Rattle.action_core.specs.inner.KeptPast.{StandsFor as TablesStand}
use Rattle.action_core.proofs.tables.kept_records.TablesRecords.was_refused_in_handler.Goals as goal

pub returns : goal.returns
returns c =
    let plan = c.args.past.now.plan.now in
    let past = reverse c.args.past.now.journal.now in
    let kept = subst (TablesStand c.args.past.now.plan.now past) (sym c.tables.view_is) c.args.past.now.stands in
    ap (λ (p : Person). p.refused) c.person.ensures
    ∙ (kept.people.each c.args.by (known_inside plan (is_playable plan c.is_closed.ensures) past c.args.past.now.legal c.args.by
    c.args.place c.requires.here)).refused
    c.args.place c.requires.here c.requires.handled
