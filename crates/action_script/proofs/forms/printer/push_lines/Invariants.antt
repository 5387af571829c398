use Rattle.std.proofs.Common.{◌≡◌, ◌++◌, take}
use Rattle.std.specs.List.{flat_map}
use Rattle.action_script.specs.Forms.Printing.{line_text}
use Rattle.action_script.proofs.forms.printer.push_lines.Given as goal

abbrev pub invariant-loop-line : goal.invariant-loop-line
invariant-loop-line l = l.text.items ≡ l.initial.text.items ++ flat_map (line_text l.names) (take l.line-index l.lines)
