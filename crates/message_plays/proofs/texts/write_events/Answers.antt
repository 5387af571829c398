use Rattle.std.proofs.Common.{reverse}
use Rattle.message_plays.specs.Texts.{event_line}
use Rattle.message_plays.proofs.Playing.Lines.{has_event, lines_more, legal_of_plan}
use Rattle.message_plays.proofs.texts.write_events.Goals as goal

pub write_event-requires : goal.write_event-requires
write_event-requires c =
    let plan = c.args.plan.now in
    let world = c.args.world.now in
    has_event plan world.past c.loop-index.index c.event.result (legal_of_plan plan world c.requires c.is_legal.ensures) c.event.ensures

pub loop-index-preserved : goal.loop-index-preserved
loop-index-preserved c =
    lines_more (event_line c.args.plan.now) (reverse c.args.world.now.past) c.loop-index.index c.event.result c.args.text.now.items
    c.loop-index.text.items c.write_event.new.text.items c.event.ensures c.loop-index.invariant c.in_ok-write_event.ensures
