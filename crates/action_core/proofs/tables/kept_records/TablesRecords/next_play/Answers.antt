use Rattle.std.proofs.Common.{◌∙◌, ◌<◌, ◌≤◌, length, reverse, sym, subst, arith}
use Rattle.journal_laws.proofs.PlayablePlan.{is_playable}
use Rattle.action_core.specs.inner.KeptPeople.{at}
use Rattle.action_core.proofs.Answering.{no_next}
use Rattle.action_core.proofs.Turning.{turn_next}
use Rattle.action_core.specs.inner.KeptPast.{StandsFor as TablesStand}
use Rattle.action_core.proofs.tables.kept_records.TablesRecords.next_play.Goals as goal

pub returns-then-by-participants : goal.returns-then-by-participants
returns-then-by-participants c =
    let plan = c.args.past.now.plan.now in
    let past = reverse c.args.past.now.journal.now in
    let kept = subst (TablesStand c.args.past.now.plan.now past) (sym c.tables.view_is) c.args.past.now.stands in
    let t = c.args.by in
    let known : t < length plan.participants = omega arith in
    c.next_kept.ensures ∙ sym (turn_next plan past t (at c.tables.inside.people t).turn (kept.people.each t known).turn)

pub returns-else-by-participants : goal.returns-else-by-participants
returns-else-by-participants c =
    let plan = c.args.past.now.plan.now in
    let high : length plan.participants ≤ c.args.by = omega arith in
    sym (no_next plan (is_playable plan c.is_closed.ensures) (reverse c.args.past.now.journal.now) c.args.by high)
