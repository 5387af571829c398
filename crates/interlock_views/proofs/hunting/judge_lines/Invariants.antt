use Rattle.std.specs.List.{All, Contains}
use Rattle.interlock_views.specs.inner.Judging.{AreJudgedSoFar}
use Rattle.interlock_views.proofs.hunting.judge_lines.Given as goal

abbrev pub invariant-loop-line : goal.invariant-loop-line
invariant-loop-line l = record {
  left : All (Contains l.fn.lines.unbroken.items) l.line-iterator.rest.items;
  so_far : AreJudgedSoFar l.taken l.plan l.entries l.fn.lines l.after l.line-iterator.rest.items;
}
