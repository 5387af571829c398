use Rattle.std.proofs.Common.{◌≤◌, arith, length, sym}
use Rattle.journal_laws.proofs.PlayablePlan.{is_playable}
use Rattle.journal_replay.proofs.Composing.{unknown_free}
use Rattle.journal_states.specs.Past.{plan_in, past_in}
use Rattle.journal_states.proofs.states.States.holder.Goals as goal

-- nobody holds an object that isn't there
pub returns-else-object-objects : goal.returns-else-object-objects
returns-else-object-objects c =
    let plan = plan_in c.args.self.now in
    let high : length plan.objects ≤ c.args.object = omega (arith, c.objects.ensures, c.if-object-objects.false) in
    sym (unknown_free plan (is_playable plan c.is_closed.ensures) (past_in c.args.self.now) c.args.object high)
