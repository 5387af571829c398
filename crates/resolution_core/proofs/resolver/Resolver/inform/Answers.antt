use Rattle.resolution_core.proofs.Keeping.{informed_keeps}
use Rattle.resolution_core.proofs.resolver.Resolver.inform.Goals as goal

pub returns-clause-keeps : goal.returns-clause-keeps
returns-clause-keeps c = λ past e s acts.
    informed_keeps c.args.plan.now past e c.args.place c.args.by c.args.self.now c.halt.new.self s acts c.halt.ensures
