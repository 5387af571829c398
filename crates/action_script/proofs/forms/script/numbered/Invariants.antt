use Rattle.std.proofs.Common.{◌≡◌, ◌+◌, length}
use Rattle.action_script.specs.Forms.Printing.{numbered_from}
use Rattle.action_script.proofs.forms.script.numbered.Given as goal

abbrev pub invariant-loop-form : goal.invariant-loop-form
invariant-loop-form l = record {
  are : l.lines.items ≡ numbered_from 1 l.yielded;
  left : length l.yielded + length l.form-iterator.rest.items ≡ length l.fn.forms.items;
}
