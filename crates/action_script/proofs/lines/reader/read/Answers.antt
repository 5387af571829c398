use Rattle.std.proofs.Common.{length, refl, sym, ap, ◌∙◌, arith}
use Rattle.action_script.specs.Forms.ScriptValue.{Script}
use Rattle.action_script.specs.inner.SoFar.{so_far}
use Rattle.action_script.proofs.OnForms.WellRead.{well_read}
use Rattle.action_script.proofs.OnLines.LineByLine.{reading_of-refused, reading_of-open, reading_of-read}
use Rattle.action_script.proofs.lines.reader.read.Goals as goal

pub returns-then-not-at_top-clause-refused : goal.returns-then-not-at_top-clause-refused
returns-then-not-at_top-clause-refused c =
    λ known. reading_of-open c.args.bytes.now (so_far c.in-Ok.reader) (omega arith) c.in-Ok.ensures.read
    (sym c.at_top.ensures ∙ c.if-not-at_top.true)

pub returns-in-Ok-to_names-clause-read : goal.returns-in-Ok-to_names-clause-read
returns-in-Ok-to_names-clause-read c =
    reading_of-read c.args.bytes.now (so_far c.in-Ok.reader) c.from_parts.result (omega arith) c.in-Ok.ensures.read
    (sym c.at_top.ensures ∙ c.if-not-at_top.false) c.from_parts.ensures.lines
    (c.from_parts.ensures.names ∙ c.in-Ok-to_names.ensures.names)

pub returns-in-Err-clause-refused : goal.returns-in-Err-clause-refused
returns-in-Err-clause-refused c = λ known. reading_of-refused c.args.bytes.now c.in-Err.error (omega arith) (c.in-Err.ensures.refused known)

pub from_parts-requires-clause-whole : goal.from_parts-requires-clause-whole
from_parts-requires-clause-whole c =
    let script : Script = record { lines = c.in-Ok.reader.lines.items; names = c.in-Ok-to_names.names.items } in
    let whole =
    reading_of-read c.args.bytes.now (so_far c.in-Ok.reader) script (omega arith) c.in-Ok.ensures.read
    (sym c.at_top.ensures ∙ c.if-not-at_top.false) refl c.in-Ok-to_names.ensures.names in
    well_read c.args.bytes.now script whole (omega (arith, c.in-Ok.ensures.few_names, ap length c.in-Ok-to_names.ensures.names))
    c.in-Ok.ensures.few_lines
