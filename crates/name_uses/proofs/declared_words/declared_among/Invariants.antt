use Rattle.std.proofs.Common.{◌≡◌, ◌+◌, ◌++◌, drop}
use Rattle.action_script.specs.declared.lines.sort.Naming.TheVariants as naming
use Rattle.action_script.specs.Forms.Uses.{named_from}
use Rattle.name_uses.specs.inner.DeclaredWords.{declared_in}
use Rattle.name_uses.proofs.declared_words.declared_among.Given as goal

abbrev pub invariant-loop-index : goal.invariant-loop-index
invariant-loop-index l =
    l.words.items ++ declared_in (named_from (l.index + 1) l.before (drop l.index l.parts) (drop l.index l.fields))
    ≡ declared_in (named_from 1 naming.Further l.parts l.fields)
