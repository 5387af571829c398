use Rattle.std.proofs.Common.{subst}
use Rattle.cover_table.specs.Cover.{CoverOrder, IsSound}
use Rattle.resolution_core.specs.inner.Recoveries.{ChangesAt, Raised}
use Rattle.resolution_core.proofs.Keeping.{raised_keeps}
use Rattle.resolution_core.proofs.resolver.Resolver.raise.Goals as goal

pub returns-clause-keeps : goal.returns-clause-keeps
returns-clause-keeps c = λ past e s acts.
    let old = c.args.self.now in
    let new = c.add.new.self in
    let same = c.internal-graph.ensures in
    raised_keeps c.args.plan.now past e c.args.place c.args.by c.args.exception old new
    (subst IsSound same c.is_sound.ensures.sound) c.requires.in_range s acts
    (subst (λ (o : CoverOrder). ChangesAt (Raised o c.args.by c.args.exception) c.args.place old new) same c.add.ensures)
