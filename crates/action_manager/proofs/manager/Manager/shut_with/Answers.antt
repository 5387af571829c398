use Rattle.std.proofs.Common.{subst, ◌<◌, ℕ}
use Rattle.action_manager.specs.inner.Turns.{held, Has}
use Rattle.action_manager.proofs.manager.Manager.shut_with.Goals as goal

pub close_with-requires-clause-all : goal.close_with-requires-clause-all
close_with-requires-clause-all g c = subst (λ n. (t : ℕ) → t < n → Has t (held c.args.kept.me.0)) c.args.self.counted c.requires.all
