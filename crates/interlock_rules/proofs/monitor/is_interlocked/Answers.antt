use Rattle.interlock_rules.proofs.Moments.{broken_somewhere, to_blame}
use Rattle.interlock_rules.proofs.monitor.is_interlocked.Goals as goal

pub returns-in-FirstValues : goal.returns-in-FirstValues
returns-in-FirstValues c =
    to_blame c.args.rule.now c.args.taken.now c.args.plan.now c.args.entries.now _ c.takes.ensures
    (broken_somewhere c.args.rule.now c.args.plan.now c.args.entries.now _ c.in_ok-first_break.ensures c.in-FirstValues.is)
