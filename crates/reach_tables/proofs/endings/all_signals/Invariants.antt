use Rattle.std.proofs.Common.{◌≡◌, ◌++◌, drop}
use Rattle.reach_laws.specs.ReachedSteps.{all_signals}
use Rattle.reach_tables.proofs.endings.all_signals.Given as goal

abbrev pub invariant-loop-verdict : goal.invariant-loop-verdict
invariant-loop-verdict l = l.signals.items ++ all_signals (drop l.verdict-index l.verdicts) ≡ all_signals l.verdicts
