use Rattle.action_manager.proofs.PublishedValues.{publishing}
use Rattle.action_manager.proofs.publishing_law.publishes_committed.Goals as goal

pub returns : goal.returns
returns c = publishing c.args.plan.now c.ends_commit.ensures
