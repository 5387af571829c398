use Rattle.std.proofs.Common.{◌≡◌, ◌≢◌, ◌<◌, ◌==◌, ◌||◌, ℕ, refl, inl, inr, ap, sym, ◌∙◌, arith, length}
use Rattle.std.proofs.lemmas.Bool.{cases_eq, eq-eqb, ne_eqb}
use Rattle.std.proofs.lemmas.List.{get_or-set_same, get_or-set_other}
use Rattle.std.proofs.Math.Bool.{and-true}
use Rattle.cover_table.specs.Cover.{has_bit, most_exceptions, tells}
use Rattle.cover_table.proofs.Bits.{had_in_zero}
use Rattle.cover_table.proofs.AddedUppers.{added_taken}
use Rattle.cover_table.proofs.uppers.add_upper.Goals as goal
use Rattle.cover_table.proofs.uppers.add_upper.Goals.{then-b-uppers, else-b-uppers}

pub loop-b-preserved : goal.loop-b-preserved
loop-b-preserved c =
    let before = c.loop-b.invariant in
    let b = c.in-Some.b in
    let found = c.in-Some.ensures.found in
    let in_row = before.left b found.0 found.1 in
    let rest_other : (d : ℕ) → d < most_exceptions → d ≢ b
    → has_bit c.without_bit-rest.result d ≡ has_bit c.loop-b.rest d =
    λ d d_in apart. rw (ne_eqb d b apart) at (c.without_bit-rest.ensures.bits d d_in)
    ∙ and-true (has_bit c.loop-b.rest d) in
    let told_other : (d k : ℕ) → d < length c.args.uppers.now → d ≢ b
    → tells c.if-b-uppers.uppers d k ≡ tells c.loop-b.uppers d k = λ d k d_in apart. elim c.if-b-uppers.branch [
      | then-b-uppers w ↦ rw w.uppers-is (ap (λ row. has_bit row k) (get_or-set_other c.loop-b.uppers b d w.with_bit.result 0 apart))
      | else-b-uppers w ↦ rw w.uppers-is refl
    ] in
    let told_here : (k : ℕ) → b < length c.args.uppers.now
    → tells c.if-b-uppers.uppers b k ≡ (k == c.args.a || tells c.loop-b.uppers b k) =
    λ k b_in. elim c.if-b-uppers.branch [
      | then-b-uppers w ↦
          rw w.uppers-is (ap (λ row. has_bit row k)
          (get_or-set_same c.loop-b.uppers b w.with_bit.result 0 (omega arith)) ∙ w.with_bit.ensures k)
      | else-b-uppers w ↦ absurd (omega arith)
    ] in
    record {
      as_many = c.if-b-uppers.auto.uppers ∙ before.as_many;
      tell = λ d k d_in. elim (cases_eq d b) [
        | inl same ↦
            let b_in : b < length c.args.uppers.now = omega arith in
            let rest_here = rw (eq-eqb b b refl, found.1) at (c.without_bit-rest.ensures.bits b found.0) in
            let told = rw (in_row, found.1) at (before.tell b k b_in) in
            rw (same, in_row, rest_here) (rw told at (told_here k b_in) ∙ added_taken (tells c.args.uppers.now b k) (k == c.args.a))
        | inr apart ↦ rw (rest_other d (omega arith) apart) (told_other d k d_in apart ∙ before.tell d k d_in)
      ];
      left = λ d d_in had. elim (cases_eq d b) [
        | inl same ↦ rw same in_row
        | inr apart ↦ before.left d d_in (sym (rest_other d d_in apart) ∙ had)
      ];
    }

pub returns : goal.returns
returns c = record {
  as_many = c.loop-b.invariant.as_many;
  tell = λ d k d_in. rw (c.in_default.ensures.none, had_in_zero d, and-true (has_bit c.args.row d)) at (c.loop-b.invariant.tell d k d_in);
}
