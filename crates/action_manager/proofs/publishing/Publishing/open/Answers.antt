use Rattle.action_manager.proofs.PublishingKept.{publishes_none}
use Rattle.action_manager.proofs.publishing.Publishing.open.Goals as goal

pub returns-clause-publishes : goal.returns-clause-publishes
returns-clause-publishes g c =
    let told = c.in_ok-writer.ensures in
    λ past none. publishes_none c.args.plan.now past c.in_ok-writer.writer none told.initials told.none.0 told.none.1 told.fresh
