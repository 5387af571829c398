use Rattle.std.proofs.Common.{◌≡◌, ◌+◌, drop}
use Rattle.fault_trials.specs.Classes.{end_of}
use Rattle.fault_trials.proofs.endings.end_of.Given as goal

abbrev pub invariant-loop-index : goal.invariant-loop-index
invariant-loop-index l = end_of l.place l.entries ≡ l.index + end_of l.place (drop l.index l.entries)
