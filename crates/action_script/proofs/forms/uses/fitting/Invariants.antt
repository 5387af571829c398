use Rattle.std.proofs.Common.{◌≡◌}
use Rattle.action_script.specs.Forms.Uses.{fitting}
use Rattle.action_script.proofs.forms.uses.fitting.Given as goal

abbrev pub invariant-loop-name : goal.invariant-loop-name
invariant-loop-name g l = l.names.items ≡ fitting (g.D.Declares.declares l.declared l.sort) l.name
