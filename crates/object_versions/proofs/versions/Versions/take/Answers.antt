use Rattle.object_versions.proofs.PlanDepths.{none_deep}
use Rattle.object_versions.proofs.VersionsKept.{taken_keeps}
use Rattle.object_versions.proofs.versions.Versions.take.Goals as goal

pub returns-clause-keeps : goal.returns-clause-keeps
returns-clause-keeps c = λ past e s t.
    taken_keeps c.args.plan.now past e c.args.place c.args.self.now c.take_all.new.self
    (none_deep c.args.plan.now c.is_closed.ensures c.args.place) s t c.take_all.ensures
