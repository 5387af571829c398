use Rattle.std.proofs.Common.{◌∙◌, reverse, sym, ap, subst}
use Rattle.std.proofs.lemmas.Bool.{false≢true}
use Rattle.journal_laws.proofs.PlayablePlan.{is_playable}
use Rattle.resolution_core.proofs.Keeping.{nothing_keeps}
use Rattle.role_states.specs.inner.Standing.{is_step}
use Rattle.action_core.specs.inner.KeptPast.{StandsFor as TablesStand}
use Rattle.action_core.proofs.Acting.{idle_acts}
use Rattle.action_core.proofs.Spoken.{endings_stay}
use Rattle.action_core.proofs.Stepping.{step_idle, step_unsaying, stages_stay, people_stay}
use Rattle.action_core.proofs.tables.Tables.note_step.Goals as goal

pub note_frames-requires-clause-stands : goal.note_frames-requires-clause-stands
note_frames-requires-clause-stands c =
    (subst (TablesStand c.args.plan.now (reverse c.args.journal.now)) (sym c.self.view_is) c.requires.stands).frames

pub note_frames-requires-clause-silent : goal.note_frames-requires-clause-silent
note_frames-requires-clause-silent c = λ leaves. absurd (false≢true (sym (ap is_step leaves) ∙ c.requires.step))

pub note_versions-requires-clause-stands : goal.note_versions-requires-clause-stands
note_versions-requires-clause-stands c =
    (subst (TablesStand c.args.plan.now (reverse c.args.journal.now)) (sym c.self.view_is) c.requires.stands).versions

pub returns : goal.returns
returns c =
    let plan = c.args.plan.now in
    let past = reverse c.args.journal.now in
    let e = c.args.entry.now in
    let kept = subst (TablesStand plan past) (sym c.self.view_is) c.requires.stands in
    record {
      frames = c.note_frames.ensures;
      versions = c.note_versions.ensures;
      recoveries = nothing_keeps plan past e e.place e.by _ kept.recoveries (idle_acts plan past e.kind e (step_idle e.kind c.requires.step));
      endings =
          endings_stay plan (is_playable plan c.is_closed.ensures) past e _ c.requires.legal c.requires.may
          (step_unsaying e.kind c.requires.step) kept.endings;
      stages = stages_stay plan past e.kind e _ c.requires.step kept.stages;
      people = people_stay plan past e.kind e _ c.requires.step kept.people;
    }
