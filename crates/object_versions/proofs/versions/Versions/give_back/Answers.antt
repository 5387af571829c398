use Rattle.object_versions.proofs.VersionsKept.{given_keeps}
use Rattle.object_versions.proofs.versions.Versions.give_back.Goals as goal

pub returns-clause-keeps : goal.returns-clause-keeps
returns-clause-keeps c = λ past e s g.
    given_keeps c.args.plan.now past e c.args.place c.args.self.now c.give_all.new.self s g c.give_all.ensures
