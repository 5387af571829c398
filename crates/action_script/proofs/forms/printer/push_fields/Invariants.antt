use Rattle.std.proofs.Common.{◌≡◌, ◌++◌, map, drop}
use Rattle.caa_base.specs.Written.Lines.{spaced}
use Rattle.action_script.specs.Forms.Printing.{field_word}
use Rattle.action_script.proofs.forms.printer.push_fields.Given as goal

abbrev pub invariant-loop-field : goal.invariant-loop-field
invariant-loop-field l =
    l.text.items ++ spaced (map (field_word l.names) (drop l.field-index l.fields)) ≡ l.initial.text.items ++ spaced
    (map (field_word l.names) l.fields)
