use Rattle.std.proofs.Common.{◌≡◌, ◌≢◌, [], ap, sym, ◌∙◌, subst}
use Rattle.cover_table.specs.Cover.{IsSound}
use Rattle.message_resolution.specs.Histories.Courses.{all_raised}
use Rattle.message_plays.specs.Turns.{with_last_wish}
use Rattle.message_plays.proofs.Playing.Wishes.{sound_order}
use Rattle.message_plays.proofs.Playing.Rounds.{unraised_from_unsent, raised_from_sent, last_wish-raised}
use Rattle.message_plays.proofs.turns.take_all_turns.Goals as goal

pub raise_first_wish-requires-clause-none : goal.raise_first_wish-requires-clause-none
raise_first_wish-requires-clause-none c =
    let now = c.take_turns.new.world in
    let sound = subst IsSound (sym c.take_turns.ensures.world.order) (sound_order c.args.plan.now c.is_closed.ensures) in
    unraised_from_unsent now.order now.count sound now.past c.is_legal.ensures (sym c.sent.ensures ∙ c.if-sent-eq0.true)

pub returns-then-sent-eq0-clause-past : goal.returns-then-sent-eq0-clause-past
returns-then-sent-eq0-clause-past c =
    let plan = c.args.plan.now in
    let now = c.take_turns.new.world in
    let sound = subst IsSound (sym c.take_turns.ensures.world.order) (sound_order plan c.is_closed.ensures) in
    let none : all_raised now.past ≡ [] =
    unraised_from_unsent now.order now.count sound now.past c.is_legal.ensures (sym c.sent.ensures ∙ c.if-sent-eq0.true) in
    c.raise_first_wish.ensures.past ∙ ap (with_last_wish plan now.past) (sym none) ∙ ap (λ es. with_last_wish plan es (all_raised es))
    c.take_turns.ensures.past

pub returns-else-sent-eq0-clause-past : goal.returns-else-sent-eq0-clause-past
returns-else-sent-eq0-clause-past c =
    let plan = c.args.plan.now in
    let now = c.take_turns.new.world in
    let sound = subst IsSound (sym c.take_turns.ensures.world.order) (sound_order plan c.is_closed.ensures) in
    let some : all_raised now.past ≢ [] =
    raised_from_sent now.order now.count sound now.past c.is_legal.ensures (λ none. c.if-sent-eq0.false (c.sent.ensures ∙ none)) in
    sym (last_wish-raised plan now.past (all_raised now.past) some) ∙ ap (λ es. with_last_wish plan es (all_raised es))
    c.take_turns.ensures.past
