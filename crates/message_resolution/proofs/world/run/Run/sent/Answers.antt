use Rattle.std.proofs.Common.{◌≤◌, ◌*◌, ap, length, subst, arith}
use Rattle.message_resolution.specs.inner.Runs.{RunView}
use Rattle.message_resolution.proofs.Coming.FewMessages.{few_messages}
use Rattle.message_resolution.proofs.world.run.Run.sent.Goals as goal

pub returns-clause-few : goal.returns-clause-few
returns-clause-few c =
    let run = c.self.inside in
    let held = c.self.invariant in
    let few = few_messages run.graph run.count _ held.legal in
    let same = ap length held.sent in
    subst (λ (v : RunView). c.len.result ≤ 2 * v.count) c.self.view_is (omega arith)
