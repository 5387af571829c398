use Rattle.std.proofs.Common.{◌≡◌, ◌++◌, map}
use Rattle.std.specs.List.{All}
use Rattle.interlock_views.specs.Broken.{IsJudgedRule}
use Rattle.interlock_views.proofs.found.judge_rules.Given as goal

abbrev pub invariant-loop-line : goal.invariant-loop-line
invariant-loop-line l = record {
  rules_are : map (λ it. it.line) l.judged.items ++ l.line-iterator.rest.items ≡ l.fn.rules.items;
  each : All (IsJudgedRule l.plan l.entries) l.judged.items;
}
