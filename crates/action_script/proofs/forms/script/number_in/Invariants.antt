use Rattle.std.proofs.Common.{◌≡◌, ◌+◌, drop}
use Rattle.action_script.specs.Words.NumberedNames.{number_in}
use Rattle.action_script.proofs.forms.script.number_in.Given as goal

abbrev pub invariant-loop-number : goal.invariant-loop-number
invariant-loop-number l = l.number + number_in (drop l.number l.names) l.word ≡ number_in l.names l.word
