use Rattle.std.proofs.Common.{◌∙◌, reverse, ap}
use Rattle.caa_base.specs.declared.written.entry.Kind.TheVariants as kind
use Rattle.journal_laws.proofs.PlayablePlan.{is_playable}
use Rattle.role_states.specs.declared.frame.Frame.{Frame}
use Rattle.action_core.proofs.Answering.{handled_right}
use Rattle.action_core.proofs.Makers.{row_of}
use Rattle.action_core.proofs.noting.is_handling.Goals as goal

pub returns : goal.returns
returns c = λ refused.
    let plan = c.args.plan.now in
    let past = reverse c.args.journal.now in
    let e = c.args.entry.now in
    ap (λ (f : Frame). f.handling) c.frame_kept.ensures
    ∙ handled_right plan (is_playable plan c.is_closed.ensures) past c.requires.legal c.args.frames.now c.requires.stands e.by e.place
    (row_of plan past kind.PutFault e refused c.requires.may).here
