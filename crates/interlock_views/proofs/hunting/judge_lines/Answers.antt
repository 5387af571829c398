use Rattle.std.proofs.Common.{refl, sym, subst}
use Rattle.std.specs.List.{All, Contains}
use Rattle.std.proofs.lemmas.List.Elements.{All-head, All-rest, All-same, All-contains_itself}
use Rattle.interlock_views.specs.inner.Judging.{AreJudgedSoFar}
use Rattle.interlock_views.specs.declared.hunting.Lines.{Lines}
use Rattle.interlock_views.proofs.Judged.{judged_none, judged_more}
use Rattle.interlock_views.proofs.hunting.judge_lines.Goals as goal

pub loop-line-init : goal.loop-line-init
loop-line-init c =
    let lines = c.args.lines in let begun = c.into_iter-line-iterator.ensures.into_iter_gives.0 in
    let taken = c.args.taken.now in let plan = c.args.plan.now in let journal = c.args.entries.now in
    let after : Lines = record { unbroken = c.new.result; found = lines.found } in
    record {
      left = All-same (Contains lines.unbroken.items) c.into_iter-line-iterator.result.rest.items lines.unbroken.items begun
          (All-contains_itself lines.unbroken.items);
      so_far = subst (AreJudgedSoFar taken plan journal lines after) (sym begun)
          (judged_none taken plan journal lines after c.new.ensures.items refl);
    }

pub loop-line-preserved : goal.loop-line-preserved
loop-line-preserved c =
    let inv = c.loop-line.invariant in let took = c.in-Some.ensures.steps.0 in
    let lines = c.args.lines in let old = c.loop-line.after in let rest = c.next.new.self.rest.items in
    let P = Contains lines.unbroken.items in
    let taken = c.args.taken.now in let plan = c.args.plan.now in let journal = c.args.entries.now in
    record {
      left = All-rest P c.in-Some.line rest c.loop-line.line-iterator.rest.items took inv.left;
      so_far = judged_more taken plan journal lines old rest c.in-Some.line c.in_ok-judged.judged c.add_judged.new.lines
          (subst (AreJudgedSoFar taken plan journal lines old) took inv.so_far)
          (All-head P c.in-Some.line rest (subst (All P) took inv.left)) c.in_ok-judged.ensures c.in_ok-add_judged.ensures;
    }
