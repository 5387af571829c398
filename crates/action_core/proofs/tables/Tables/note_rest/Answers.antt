use Rattle.std.proofs.Common.{◌∙◌, ◌<◌, reverse, sym, ap, subst}
use Rattle.journal_laws.proofs.PlayablePlan.{is_playable}
use Rattle.action_core.specs.declared.stage.Stage.{Stage}
use Rattle.action_core.specs.inner.KeptPast.{StandsFor as TablesStand}
use Rattle.action_core.proofs.Makers.{place_there}
use Rattle.action_core.proofs.tables.Tables.note_rest.Goals as goal

pub is_handling-handled-requires-clause-stands : goal.is_handling-handled-requires-clause-stands
is_handling-handled-requires-clause-stands c =
    (subst (TablesStand c.args.plan.now (reverse c.args.journal.now)) (sym c.self.view_is) c.requires.stands).frames

pub note_endings-requires-clause-stands : goal.note_endings-requires-clause-stands
note_endings-requires-clause-stands c =
    (subst (TablesStand c.args.plan.now (reverse c.args.journal.now)) (sym c.self.view_is) c.requires.stands).endings

pub note_recoveries-requires-clause-stands : goal.note_recoveries-requires-clause-stands
note_recoveries-requires-clause-stands c =
    (subst (TablesStand c.args.plan.now (reverse c.args.journal.now)) (sym c.self.view_is) c.requires.stands).recoveries

pub note_frames-requires-clause-stands : goal.note_frames-requires-clause-stands
note_frames-requires-clause-stands c =
    (subst (TablesStand c.args.plan.now (reverse c.args.journal.now)) (sym c.self.view_is) c.requires.stands).frames

pub note_frames-requires-clause-silent : goal.note_frames-requires-clause-silent
note_frames-requires-clause-silent c =
    let past = reverse c.args.journal.now in
    let kept = subst (TablesStand c.args.plan.now past) (sym c.self.view_is) c.requires.stands in
    λ leaves. c.ends_in_silence-silent.ensures past
    (ap (λ (s : Stage). s.ended) c.stage.ensures ∙ (kept.stages.each c.args.entry.now.place).ended)

pub note_versions-requires-clause-stands : goal.note_versions-requires-clause-stands
note_versions-requires-clause-stands c =
    (subst (TablesStand c.args.plan.now (reverse c.args.journal.now)) (sym c.self.view_is) c.requires.stands).versions

pub note-requires : goal.note-requires
note-requires c =
    subst (λ n. c.args.entry.now.place < n)
    (sym (subst (TablesStand c.args.plan.now (reverse c.args.journal.now)) (sym c.self.view_is) c.requires.stands).stages.as_many)
    (place_there c.args.plan.now (is_playable c.args.plan.now c.is_closed.ensures) (reverse c.args.journal.now) c.args.entry.now
    c.requires.legal c.requires.may)

pub returns : goal.returns
returns c = record {
  frames = c.note_frames.ensures;
  versions = c.note_versions.ensures;
  recoveries = c.note_recoveries.ensures;
  endings = c.note_endings.ensures;
  stages =
      c.note.ensures c.args.plan.now (reverse c.args.journal.now)
      (subst (TablesStand c.args.plan.now (reverse c.args.journal.now)) (sym c.self.view_is) c.requires.stands).stages;
  people = c.note-2.ensures;
}
