use Rattle.std.proofs.Common.{ap, sym, ◌∙◌, subst}
use Rattle.cover_table.specs.Cover.{IsSound}
use Rattle.message_resolution.specs.declared.world.event.Event.TheVariants.{Raise}
use Rattle.message_plays.specs.Turns.{with_raise}
use Rattle.message_plays.proofs.Playing.Wishes.{sound_order}
use Rattle.message_plays.proofs.Playing.Rounds.{happens, may_raise}
use Rattle.message_plays.proofs.turns.raise_first_wish.Goals as goal

pub returns-in-Some-clause-past : goal.returns-in-Some-clause-past
returns-in-Some-clause-past c =
    let old = c.args.world.now in
    let sound = subst IsSound (sym c.requires.world.order) (sound_order c.args.plan.now c.is_closed.ensures) in
    let legal = may_raise old.order old.count sound old.past c.is_legal.ensures c.requires.none c.in-Some.by c.in-Some.exception in
    happens old c.step.new.self (Raise c.in-Some.by c.in-Some.exception) c.step.result c.step.ensures.ok c.step.ensures.refused legal
    ∙ ap (with_raise old.past) (sym c.in-Some.is ∙ c.first_wish.ensures.wish)
