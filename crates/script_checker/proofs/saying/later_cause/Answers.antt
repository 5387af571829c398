use Rattle.std.proofs.Common.{sym, ap, ◌∙◌}
use Rattle.script_checker.specs.declared.declared.Block.{Block}
use Rattle.script_checker.specs.inner.Chosen.{later_cause}
use Rattle.script_checker.proofs.saying.later_cause.Goals as goal

pub returns-in-Graph : goal.returns-in-Graph
returns-in-Graph c =
    let d = c.args.so_far.now.declared in
    c.later_cause-in-Graph.ensures d ∙ ap (λ (b : Block). later_cause d b c.args.form.now) (sym c.in-Graph.is)
