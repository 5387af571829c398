use Rattle.message_resolution.proofs.Knowing.Resolving.{meets}
use Rattle.message_resolution.proofs.node.Node.receive.Goals as goal

pub returns : goal.returns
returns c =
    meets c.args.graph.now _ c.args.self.now c.take_message-word.new.self c.resolve-resolved.new.self c.take_message-word.result
    c.resolve-resolved.result c.sent_with.result c.is_sound.ensures.sound.is_order c.take_message-word.ensures
    c.resolve-resolved.ensures c.sent_with.ensures.messages c.sent_with.ensures.lone
