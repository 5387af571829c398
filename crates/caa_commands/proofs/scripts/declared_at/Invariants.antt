use Rattle.std.proofs.Common.{◌≡◌, [], drop}
use Rattle.caa_commands.specs.Scripts.{declared_at}
use Rattle.caa_commands.proofs.scripts.declared_at.Given as goal

abbrev pub invariant-loop-said : goal.invariant-loop-said
invariant-loop-said l = declared_at l.line l.names.items (drop l.said-index l.said-items) ≡ declared_at l.line [] l.said-items
