use Rattle.std.proofs.Common.{◌≡◌, map, take}
use Rattle.action_script.specs.Words.NumberedNames.{number_in}
use Rattle.graph_maker.proofs.forms.numbers_of.Given as goal

abbrev pub invariant-loop-word : goal.invariant-loop-word
invariant-loop-word l = l.numbers.items ≡ map (number_in l.names) (take l.word-index l.words)
