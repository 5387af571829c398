use Rattle.std.proofs.Common.{◌≢◌, length, sym, ◌∙◌}
use Rattle.std.proofs.lemmas.Result.{on_ok_weaker, IfErr-weaker}
use Rattle.action_script.specs.declared.forms.form.Form.TheVariants as form
use Rattle.script_checker.specs.declared.check_error.CheckCause.TheVariants as cause
use Rattle.script_checker.specs.inner.Ends.{IsGraphRefusal}
use Rattle.script_checker.specs.Compiled.{IsLeast}
use Rattle.script_checker.proofs.Choosing.{least_of_graph, none_of_graph}
use Rattle.script_checker.proofs.ending.end.Goals as goal

pub returns-in-Graph-clause-accepted : goal.returns-in-Graph-clause-accepted
returns-in-Graph-clause-accepted c =
    on_ok_weaker c.end_graph.result (none_of_graph c.args.so_far.now c.in-Graph.graph (sym c.replace.ensures.value ∙ c.in-Graph.is))
    c.end_graph.ensures.faultless

pub returns-in-Graph-clause-refused : goal.returns-in-Graph-clause-refused
returns-in-Graph-clause-refused c =
    let s = c.args.so_far.now in
    let g = c.in-Graph.graph in
    IfErr-weaker c.end_graph.result (IsGraphRefusal (length g.exceptions) g.pairs) (λ k. k ≢ cause.OutOfMemory → IsLeast s form.End k)
    (least_of_graph s g (sym c.replace.ensures.value ∙ c.in-Graph.is)) c.end_graph.ensures.refused
