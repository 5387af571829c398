use Rattle.std.proofs.Common.{◌≡◌, ◌≤◌, drop}
use Rattle.graph_maker.specs.Refusals.{refused_from}
use Rattle.graph_maker.proofs.refusals.first_refused.Given as goal

abbrev pub invariant-loop-line : goal.invariant-loop-line
invariant-loop-line l =
    (l.passed ≤ l.line-index) ×
    (refused_from l.script l.most l.passed (drop l.line-index l.line-items) ≡ refused_from l.script l.most 0 l.line-items)
