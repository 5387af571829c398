use Rattle.std.proofs.Common.{◌≡◌, ◌++◌, map, length}
use Rattle.action_script.specs.Words.CutLines.{words_of}
use Rattle.action_script.proofs.words.cuts.words_of.Given as goal

abbrev pub invariant-loop-rest : goal.invariant-loop-rest
invariant-loop-rest l = words_of l.line ≡ map (λ w. w.now) l.words.items ++ words_of l.rest

abbrev pub decreases-loop-rest : goal.decreases-loop-rest
decreases-loop-rest l = length l.rest
