use Rattle.std.proofs.Common.{◌≡◌, Bool, true, [], List, length, slice_index_or, sym, subst}
use Rattle.script_outcomes.specs.declared.outlooks.Outlook.{Outlook}
use Rattle.script_outcomes.specs.Endings.{ends_undone}
use Rattle.script_outcomes.specs.Nevers.{TellsNever}
use Rattle.script_outcomes.specs.Untried.{TellsUntried}
use Rattle.script_outcomes.specs.inner.RuledOut.{RulesOutOnly}
use Rattle.script_outcomes.proofs.RuledOut.{outlooks_more}
use Rattle.script_outcomes.proofs.Untried.{untried_more}
use Rattle.script_outcomes.proofs.outlooks.outlooks.Goals as goal

pub loop-action-preserved : goal.loop-action-preserved
loop-action-preserved c =
    let plan = c.args.plan.now in
    let nevers = c.in_ok-nevers.nevers in
    let undone = c.in_ok-undone.undone.items in
    let next = c.in_ok-next.next in
    let known = c.loop-action.known.items in
    let only = subst (λ (known : List Outlook). RulesOutOnly (slice_index_or nevers (length known) []) next.rows.items)
    c.deref-in-loop-action.ensures.value c.in_ok-next.ensures.only in
    let can = subst (λ (list : List Bool). slice_index_or list (length known) true ≡ true → ends_undone next ≡ true)
    c.deref.ensures.value
    (subst (λ (them : List Outlook). slice_index_or c.deref.result.now (length them) true ≡ true → ends_undone next ≡ true)
    c.deref-in-loop-action.ensures.value c.in_ok-next.ensures.undone) in (
      subst (TellsNever plan) (sym c.in_ok-push.ensures.items)
          (outlooks_more plan nevers known next c.in_ok-nevers.ensures c.loop-action.invariant.0 only),
      subst (TellsUntried plan) (sym c.in_ok-push.ensures.items)
          (untried_more plan undone known next c.in_ok-undone.ensures c.loop-action.invariant.1 can),
    )
