use Rattle.std.proofs.Common.{subst, sym}
use Rattle.role_states.specs.inner.Stacks.{at}
use Rattle.role_states.specs.inner.Standing.{IsInnermost}
use Rattle.role_states.proofs.Keeping.{innermost}
use Rattle.role_states.proofs.frames.Frames.frame.Goals as goal

pub returns-clause-by_journal : goal.returns-clause-by_journal
returns-clause-by_journal c = λ plan past s known.
    subst (IsInnermost plan past c.args.by) (sym c.top.ensures)
    (innermost plan past c.args.by (at c.args.self.now c.args.by) (s.each c.args.by known))
