use Rattle.name_uses.specs.Occurrences.{occurrences}
use Rattle.name_uses.proofs.Found.{HasFound}
use Rattle.name_uses.proofs.occurrences.occurrences.Given as goal

abbrev pub invariant-loop-line : goal.invariant-loop-line
invariant-loop-line l = HasFound l.script.names l.lines (occurrences l.script.names l.lines) l.found.items l.scope l.line-index
