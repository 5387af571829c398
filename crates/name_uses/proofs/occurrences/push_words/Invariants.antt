use Rattle.std.proofs.Common.{◌≡◌, ◌++◌, map, take}
use Rattle.name_uses.specs.inner.Found.{occurrence_at}
use Rattle.name_uses.proofs.occurrences.push_words.Given as goal

abbrev pub invariant-loop-word : goal.invariant-loop-word
invariant-loop-word l =
    l.found.items ≡ l.initial.found.items ++ map (occurrence_at l.scope l.declares l.line) (take l.word-index l.words)
