use Rattle.std.proofs.Common.{arith}
use Rattle.std.proofs.lemmas.Bool.{eqb-true, eq-eqb}
use Rattle.place_plan.proofs.OnDrafts.BitsOfObjects.{all_from_rows, row_from_all}
use Rattle.place_plan.proofs.drafts.object_list.bits_have_all.Goals as goal

pub returns-then-bits-others : goal.returns-then-bits-others
returns-then-bits-others c = (
  λ same. all_from_rows c.args.bits.now c.args.others.now c.told-others c.if-bits-others.true (eqb-true _ _ same),
  λ all. eq-eqb _ _ (row_from_all c.args.bits.now c.args.others.now 1 (omega arith) all),
)

pub returns-else-bits-others : goal.returns-else-bits-others
returns-else-bits-others c = (
  λ same. absurd (c.if-bits-others.false (eqb-true _ _ same)),
  λ all. absurd (c.if-bits-others.false (row_from_all c.args.bits.now c.args.others.now 0 (omega arith) all)),
)
