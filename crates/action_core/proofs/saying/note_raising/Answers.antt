use Rattle.std.proofs.Common.{◌≡◌, ◌∙◌, ◌∷◌, ◌<◌, true, false, reverse, length, length-set, sym, ap, subst}
use Rattle.place_plan.specs.RulesOfJournals.Raising.{is_raised}
use Rattle.journal_laws.proofs.PlayablePlan.{is_playable}
use Rattle.action_endings.proofs.EndingsKept.{others_keep}
use Rattle.action_core.proofs.Spoken.{first_raised, none_counts, raised_again}
use Rattle.action_core.proofs.saying.note_raising.Goals as goal

pub clear-requires : goal.clear-requires
clear-requires c =
    subst (λ n. c.args.place < n) (sym (ap length c.doom.ensures.marked ∙ length-set c.args.endings.now c.args.place _))
    c.requires.there

pub returns-then-not-is_raised : goal.returns-then-not-is_raised
returns-then-not-is_raised c =
    let calm : is_raised c.args.plan.now (reverse c.args.journal.now) c.args.place ≡ false =
    sym (c.is_raised.ensures.stands c.args.plan.now (reverse c.args.journal.now) c.requires.stands) ∙ c.if-not-is_raised.true in
    c.clear.ensures.keeps c.args.plan.now (c.args.entry.now ∷ (reverse c.args.journal.now))
    (c.doom.ensures.keeps (reverse c.args.journal.now) c.args.entry.now c.requires.stands
    (first_raised c.args.plan.now (is_playable c.args.plan.now c.is_closed.ensures) (reverse c.args.journal.now)
    c.args.entry.now c.requires.legal c.requires.may c.args.place c.requires.raises.exception c.requires.raises.acts
    c.requires.raises.apart))
    (none_counts c.args.plan.now (is_playable c.args.plan.now c.is_closed.ensures) (reverse c.args.journal.now) c.args.entry.now
    c.requires.legal c.requires.may c.args.place c.requires.raises.exception c.requires.raises.acts c.requires.raises.apart calm)

pub returns-else-not-is_raised : goal.returns-else-not-is_raised
returns-else-not-is_raised c =
    let up : is_raised c.args.plan.now (reverse c.args.journal.now) c.args.place ≡ true =
    sym (c.is_raised.ensures.stands c.args.plan.now (reverse c.args.journal.now) c.requires.stands) ∙ c.if-not-is_raised.false in
    others_keep c.args.plan.now (reverse c.args.journal.now) c.args.entry.now c.args.endings.now
    (raised_again c.args.plan.now (is_playable c.args.plan.now c.is_closed.ensures) (reverse c.args.journal.now)
    c.args.entry.now c.requires.legal c.requires.may c.args.place c.requires.raises.exception c.requires.raises.acts
    c.requires.raises.apart up)
    c.requires.stands
