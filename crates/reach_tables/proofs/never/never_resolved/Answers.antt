use Rattle.std.proofs.Common.{ℕ, ◌<◌, [], length, slice_index_or, sym, subst}
use Rattle.reach_tables.specs.ReachTable.{row_of, LeavesNothingOut}
use Rattle.reach_tables.specs.Never.{ListNever}
use Rattle.reach_tables.specs.inner.NoneComes.{NoneComes}
use Rattle.reach_tables.proofs.NeverComes.{list_never}
use Rattle.reach_tables.proofs.never.never_resolved.Goals as goal

pub returns : goal.returns
returns c =
    let plan = c.args.plan.now in
    let lists = c.in_ok-lists.lists.items in
    let told = subst (LeavesNothingOut plan) c.deref.ensures.value (c.in_ok-leaves_nothing_out.ensures c.if-not-branch.false) in
    let each = subst
    (λ table. (a : ℕ) → a < length lists → NoneComes plan (row_of table a) a (slice_index_or lists a [])) c.deref-2.ensures.value
    c.in_ok-lists.ensures in
    subst (ListNever plan) (sym c.from_vec-2.ensures)
    (list_never plan c.in_ok-table.table.items lists told c.resolves_no_other.ensures each)
