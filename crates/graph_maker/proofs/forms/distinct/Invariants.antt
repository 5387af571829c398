use Rattle.std.proofs.Common.{◌≡◌, ◌≤◌, [], length, take}
use Rattle.action_script.specs.Words.NumberedNames.{with_names}
use Rattle.graph_maker.proofs.forms.distinct.Given as goal

abbrev pub invariant-loop-word : goal.invariant-loop-word
invariant-loop-word l = (length l.names.items ≤ l.word-index) × (l.names.items ≡ with_names [] (take l.word-index l.words))
