use Rattle.std.proofs.Common.{◌≡◌, take, map}
use Rattle.action_script.proofs.words.names.NameTable.to_names.Given as goal

abbrev pub invariant-loop-name : goal.invariant-loop-name
invariant-loop-name l = l.names.items ≡ map (λ k. k.now) (take l.name-index l.name-items)
