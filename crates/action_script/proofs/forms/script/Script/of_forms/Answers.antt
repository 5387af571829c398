use Rattle.std.proofs.Common.{sym, subst, ap, ◌∙◌}
use Rattle.action_script.specs.Forms.Printing.{AreScript, forms_of}
use Rattle.action_script.proofs.OnLines.LineNumbers.{forms_of-numbered_from}
use Rattle.action_script.proofs.forms.script.Script.of_forms.Goals as goal

pub from_parts-requires-clause-whole : goal.from_parts-requires-clause-whole
from_parts-requires-clause-whole c =
    subst (AreScript c.args.names.items) (sym (ap forms_of c.in_ok-lines.ensures ∙ forms_of-numbered_from 1 c.args.forms.items)) c.requires
