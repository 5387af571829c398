use Rattle.std.proofs.Common.{◌≡◌, ◌+◌, ◌++◌, drop}
use Rattle.action_script.specs.declared.lines.sort.Naming.TheVariants as naming
use Rattle.action_script.specs.Forms.LineForms.{name_at}
use Rattle.action_script.specs.Forms.Uses.{named_from, used_in}
use Rattle.action_script.proofs.forms.uses.used_among.Given as goal

abbrev pub invariant-loop-index : goal.invariant-loop-index
invariant-loop-index l =
    l.words.items ++ used_in l.nest (named_from (l.index + 1) l.before (drop l.index l.parts) (drop l.index l.fields))
    ≡ used_in l.nest (named_from 1 naming.Further l.parts l.fields)
