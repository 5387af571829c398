use Rattle.std.proofs.Common.{◌≡◌, ◌++◌, map, drop}
use Rattle.action_script.specs.Lines.Spelling.{asked_of}
use Rattle.action_script.proofs.lines.asked.fill_asked.Given as goal

abbrev pub invariant-loop-index : goal.invariant-loop-index
invariant-loop-index l =
    l.asked.items ++ asked_of (drop l.index l.parts) (map (λ w. w.now) (drop l.index l.words)) ≡ asked_of l.parts (map (λ w. w.now) l.words)
