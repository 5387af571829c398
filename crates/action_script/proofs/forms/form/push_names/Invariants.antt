use Rattle.std.proofs.Common.{◌≡◌, ◌++◌, map, take}
use Rattle.action_script.specs.declared.lines.field.Field.TheVariants as field
use Rattle.action_script.proofs.forms.form.push_names.Given as goal

abbrev pub invariant-loop-number : goal.invariant-loop-number
invariant-loop-number l = l.fields.items ≡ l.initial.fields.items ++ map field.Name (take l.number-index l.numbers)
