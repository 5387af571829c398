use Rattle.std.proofs.Common.{◌≡◌, ℕ, false, Vec, Global, ◌∙◌, ap}
use Rattle.std.proofs.lemmas.List.Elements.{All-push, All-same}
use Rattle.reach_tables.specs.ReachTable.{can_resolve}
use Rattle.reach_tables.proofs.never.never_among.Goals as goal
use Rattle.reach_tables.proofs.never.never_among.Goals.{then-branch+in_ok-push, else-branch}

pub loop-exception-preserved : goal.loop-exception-preserved
loop-exception-preserved c =
    let Fails : ℕ → Type 0 = λ (x : ℕ). can_resolve c.args.graph.now c.args.groups.now x ≡ false in
    let before = c.loop-exception.never.items in
    elim c.if-branch.branch [
      | then-branch+in_ok-push w ↦
          All-same Fails c.if-branch.never.items _ (ap (λ (v : Vec ℕ Global). v.items) w.never-is ∙ w.in_ok-push.ensures.items)
          (All-push Fails before c.loop-exception.exception c.loop-exception.invariant (c.in_ok-is_never.ensures w.if-branch.true))
      | else-branch w ↦ All-same Fails c.if-branch.never.items before (ap (λ (v : Vec ℕ Global). v.items) w.never-is) c.loop-exception.invariant
    ]
