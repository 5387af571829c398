use Rattle.std.proofs.Common.{◌≡◌, ◌∙◌, ◌<◌, to_z, of_z, w64, reverse, sym, subst, arith}
use Rattle.std.proofs.lemmas.Int.{ints}
use Rattle.action_core.specs.inner.KeptPast.{StandsFor as TablesStand}
use Rattle.action_core.proofs.tables.kept_records.TablesRecords.value_at.Goals as goal

pub value-requires : goal.value-requires
value-requires c =
    let past = reverse c.args.past.now.journal.now in
    let kept = subst (TablesStand c.args.past.now.plan.now past) (sym c.tables.view_is) c.args.past.now.stands in
    subst (λ n. c.args.object < n) (sym kept.versions.as_many) c.requires.known

pub returns : goal.returns
returns c =
    let past = reverse c.args.past.now.journal.now in
    let kept = subst (TablesStand c.args.past.now.plan.now past) (sym c.tables.view_is) c.args.past.now.stands in
    let same : to_z w64 (of_z w64 c.value.result) ≡ c.value.result = omega (arith, ints) in
    same ∙ c.value.ensures ∙ (kept.versions.each c.args.object c.requires.known).value
