use Rattle.action_manager.proofs.PublishedValues.{publishing}
use Rattle.action_manager.proofs.CommittedReadings.{known_published, committed_reading}
use Rattle.action_manager.proofs.publishing_law.readings_are_committed.Goals as goal

pub returns-clause-begins : goal.returns-clause-begins
returns-clause-begins c = λ past published. known_published _ past _ _ c.knows_no_more.ensures.begins published

pub returns-clause-committed : goal.returns-clause-committed
returns-clause-committed c = λ past o r published legal is.
    committed_reading c.args.plan.now past c.args.observer.now.known o r
    (publishing c.args.plan.now c.ends_commit.ensures past legal)
    (known_published _ past _ _ c.knows_no_more.ensures.begins published) is
