use Rattle.std.proofs.Common.{◌≡◌, ◌∙◌, ◌<◌, to_z, of_z, w64, reverse, sym, subst, arith}
use Rattle.std.proofs.lemmas.Int.{ints}
use Rattle.journal_laws.proofs.PlayablePlan.{is_playable}
use Rattle.action_core.proofs.Answering.{restored_live}
use Rattle.action_core.specs.inner.KeptPast.{StandsFor as TablesStand}
use Rattle.action_core.proofs.tables.kept_records.TablesRecords.value_at_start.Goals as goal

pub saved-requires : goal.saved-requires
saved-requires c =
    let past = reverse c.args.past.now.journal.now in
    let kept = subst (TablesStand c.args.past.now.plan.now past) (sym c.tables.view_is) c.args.past.now.stands in
    subst (λ n. c.args.object < n) (sym kept.versions.as_many) c.requires.known

pub returns : goal.returns
returns c =
    let plan = c.args.past.now.plan.now in
    let past = reverse c.args.past.now.journal.now in
    let kept = subst (TablesStand c.args.past.now.plan.now past) (sym c.tables.view_is) c.args.past.now.stands in
    let same : to_z w64 (of_z w64 c.saved.result) ≡ c.saved.result = omega (arith, ints) in
    let w =
    restored_live plan (is_playable plan c.is_closed.ensures) past c.tables.inside.versions kept.versions c.args.past.now.legal c.args.place
    c.args.object c.requires.undoing c.requires.lasts c.requires.next in
    same ∙ c.saved.ensures.at_start past kept.versions w.0 w.1
