use Rattle.std.proofs.Common.{ℕ, slice_index, ◌∙◌, arith, inl, inr}
use Rattle.std.proofs.lemmas.Bool.{cases_eq}
use Rattle.cover_table.proofs.AddedUppers.{added_other, added_same}
use Rattle.cover_table.proofs.uppers.uppers_of.Goals as goal

pub loop-a-preserved : goal.loop-a-preserved
loop-a-preserved g c =
    let before = c.loop-a.invariant in
    let row : ℕ = slice_index c.args.rows.now c.loop-a.a in
    record {
      len = c.add_upper.ensures.as_many ∙ before.len;
      done = λ d b d_in b_in. elim (cases_eq d c.loop-a.a) [
        | inl same ↦
            rw same (added_same _ _ c.loop-a.a row c.add_upper.ensures b (omega arith)
            (before.left c.loop-a.a b (omega arith) b_in))
        | inr apart ↦ added_other _ _ c.loop-a.a row c.add_upper.ensures b d (omega arith) apart ∙ before.done d b (omega arith) b_in
      ];
      left =
          λ d b d_in b_in. added_other _ _ c.loop-a.a row c.add_upper.ensures b d (omega arith) (λ same. omega arith)
          ∙ before.left d b (omega arith) b_in;
    }
