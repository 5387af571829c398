use Rattle.std.proofs.Common.{◌≡◌, ◌+◌, ◌<◌, ◌∷◌, ℕ, List, [], length, length-append, slice_index_or, sym, ap, ◌∙◌, subst, arith}
use Rattle.std.proofs.lemmas.List.{get_or_default}
use Rattle.reach_tables.specs.declared.table.ReachRow.{ReachRow}
use Rattle.reach_tables.specs.ReachTable.{no_reach, row_of}
use Rattle.reach_tables.specs.inner.NoneComes.{NoneComes}
use Rattle.reach_tables.proofs.LongerLists.{lists_more}
use Rattle.reach_tables.proofs.never.never_by.Goals as goal

pub loop-action-preserved : goal.loop-action-preserved
loop-action-preserved c =
    let plan = c.args.plan.now in
    let table = c.args.table.now in
    let action = c.loop-action.action in
    let lists = c.loop-action.lists.items in
    let never = c.in_ok-never_in.field-0 in
    let below : action < length table = omega arith in
    let row : c.index-table-action.result ≡ row_of table action =
    c.index-table-action.is ∙ get_or_default table action c.index-table-action.result no_reach below in
    let made : NoneComes plan (row_of table action) action never =
    subst (λ (r : ReachRow). NoneComes plan r action never) row c.in_ok-never_in.ensures in
    let pushed = c.in_ok-push.ensures.items in
    let more = length-append lists (never ∷ []) in
    let one : length c.push.new.self.items ≡ length lists + 1 = ap length pushed ∙ more in (
      one ∙ ap (λ n. n + 1) c.loop-action.invariant.0,
      subst (λ (now : List (List ℕ)). (a : ℕ) → a < length now → NoneComes plan (row_of table a) a (slice_index_or now a []))
          (sym pushed)
          (lists_more (λ a xs. NoneComes plan (row_of table a) a xs) lists never c.loop-action.invariant.1
          (subst (λ n. NoneComes plan (row_of table n) n never) (sym c.loop-action.invariant.0) made)),
    )
