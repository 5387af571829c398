use Rattle.std.proofs.Common.{◌∙◌, reverse, sym}
use Rattle.journal_laws.proofs.PlayablePlan.{is_playable}
use Rattle.journal_replay.proofs.Entering.{entered_first, entered_there}
use Rattle.journal_replay.proofs.rule.entered.Goals as goal

pub unwrap-requires : goal.unwrap-requires
unwrap-requires g c =
    let past = c.args.past.now in
    entered_there past.plan.now (is_playable past.plan.now c.is_closed.ensures) (reverse past.journal.now) past.legal c.args.place
    c.args.by c.args.nest c.requires.here c.requires.calm c.requires.step c.first_lasting.result c.first_lasting.ensures

pub returns : goal.returns
returns g c =
    let past = c.args.past.now in
    sym c.unwrap.ensures ∙ c.first_lasting.ensures
    ∙ sym (entered_first past.plan.now (is_playable past.plan.now c.is_closed.ensures) (reverse past.journal.now) past.legal c.args.place
    c.args.by c.args.nest c.requires.here c.requires.calm c.requires.step)
