use Rattle.std.proofs.Common.{inl, inr, sym, ◌∙◌, arith}
use Rattle.std.proofs.lemmas.Bool.{both_ways, cases_eq, or_cases, or_left, or_right, eqb-true, eq-eqb}
use Rattle.cover_table.specs.Cover.{has_bit}
use Rattle.cover_table.proofs.Bits.{had_in_zero}
use Rattle.exception_graph.proofs.closing.full_row.Goals as goal

pub loop-b-init : goal.loop-b-init
loop-b-init c = λ d. (λ had. absurd (both_ways (has_bit 0 d) (had_in_zero d) had), λ less. absurd (omega arith))

pub loop-b-preserved : goal.loop-b-preserved
loop-b-preserved c = λ d. (
  λ had. elim (or_cases _ _ (sym (c.with_bit-row.ensures d) ∙ had)) [
    | inl here ↦ let same = eqb-true d c.loop-b.b here in omega arith
    | inr before ↦ let less = (c.loop-b.invariant d).0 before in omega arith
  ],
  λ less. c.with_bit-row.ensures d ∙ elim (cases_eq d c.loop-b.b) [
    | inl same ↦ or_left _ _ (eq-eqb d c.loop-b.b same)
    | inr apart ↦ or_right _ _ ((c.loop-b.invariant d).1 (omega arith))
  ],
)
