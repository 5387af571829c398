use Rattle.message_resolution.proofs.Knowing.Resolving.{meets}
use Rattle.message_resolution.proofs.node.Node.raise.Goals as goal

pub returns : goal.returns
returns c =
    meets c.args.graph.now _ c.args.self.now c.take_raise-word.new.self c.resolve-resolved.new.self c.take_raise-word.result
    c.resolve-resolved.result c.sent_with.result c.is_sound.ensures.sound.is_order c.take_raise-word.ensures
    c.resolve-resolved.ensures c.sent_with.ensures.messages c.sent_with.ensures.lone
