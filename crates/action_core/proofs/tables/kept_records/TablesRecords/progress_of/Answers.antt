use Rattle.std.proofs.Common.{◌≡◌, ◌∙◌, to_z, of_z, w64, reverse, sym, subst, ap, arith}
use Rattle.std.proofs.lemmas.Int.{ints}
use Rattle.journal_laws.proofs.PlayablePlan.{is_playable}
use Rattle.role_states.specs.declared.frame.Frame.{Frame}
use Rattle.action_core.specs.inner.Asked.{handled_kept}
use Rattle.action_core.proofs.Answering.{exception_right, position_right, register_right}
use Rattle.action_core.specs.inner.KeptPast.{StandsFor as TablesStand}
use Rattle.action_core.proofs.tables.kept_records.TablesRecords.progress_of.Goals as goal

pub returns-clause-handled : goal.returns-clause-handled
returns-clause-handled c =
    let plan = c.args.past.now.plan.now in
    let past = reverse c.args.past.now.journal.now in
    let kept = subst (TablesStand c.args.past.now.plan.now past) (sym c.tables.view_is) c.args.past.now.stands in
    c.handled_kept-handled.ensures ∙ ap (λ (f : Frame). handled_kept c.tables.inside.recoveries f c.args.place) c.frame_kept-frame.ensures
    ∙ exception_right plan (is_playable plan c.is_closed.ensures) past c.args.past.now.legal c.tables.inside.frames kept.frames
    c.tables.inside.recoveries kept.recoveries c.args.by c.args.place c.requires.here

pub returns-clause-position : goal.returns-clause-position
returns-clause-position c =
    let plan = c.args.past.now.plan.now in
    let past = reverse c.args.past.now.journal.now in
    let kept = subst (TablesStand c.args.past.now.plan.now past) (sym c.tables.view_is) c.args.past.now.stands in
    ap (λ (f : Frame). f.position) c.frame_kept-frame.ensures
    ∙ position_right plan (is_playable plan c.is_closed.ensures) past c.args.past.now.legal c.tables.inside.frames kept.frames
    c.args.by c.args.place c.requires.here

pub returns-clause-register : goal.returns-clause-register
returns-clause-register c =
    let plan = c.args.past.now.plan.now in
    let past = reverse c.args.past.now.journal.now in
    let kept = subst (TablesStand c.args.past.now.plan.now past) (sym c.tables.view_is) c.args.past.now.stands in
    let same : to_z w64 (of_z w64 c.frame_kept-frame.result.register) ≡ c.frame_kept-frame.result.register =
    omega (arith, ints) in
    same ∙ ap (λ (f : Frame). f.register) c.frame_kept-frame.ensures
    ∙ register_right plan (is_playable plan c.is_closed.ensures) past c.args.past.now.legal c.tables.inside.frames kept.frames
    c.args.by c.args.place c.requires.here
