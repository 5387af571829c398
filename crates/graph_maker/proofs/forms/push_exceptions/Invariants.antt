use Rattle.std.proofs.Common.{◌≡◌, ◌++◌, map, take}
use Rattle.action_script.specs.declared.forms.form.Form.TheVariants as form
use Rattle.graph_maker.proofs.forms.push_exceptions.Given as goal

abbrev pub invariant-loop-number : goal.invariant-loop-number
invariant-loop-number l = l.forms.items ≡ l.fn.forms.items ++ map form.Exception (take l.number-index l.numbers)
