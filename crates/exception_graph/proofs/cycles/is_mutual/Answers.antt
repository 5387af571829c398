use Rattle.std.proofs.Common.{inl, inr, below_more, sym, arith}
use Rattle.std.proofs.lemmas.Bool.{cases_order}
use Rattle.exception_graph.proofs.Mutual.{same_row}
use Rattle.exception_graph.proofs.cycles.is_mutual.Goals as goal

pub loop-b-preserved : goal.loop-b-preserved
loop-b-preserved c =
    below_more _ _ c.loop-b.invariant
    (λ later down up. c.if-rows-b.false
    (same_row c.args.rows.now c.args.a c.loop-b.b c.requires.closed c.requires.a_in c.loop-b-test.true down up))

pub returns : goal.returns
returns c = (
  λ yes. absurd cc,
  λ m. elim (cases_order m.other c.args.a) [
    | inl same ↦ absurd (m.apart same)
    | inr apart ↦ elim apart [
      | inl less ↦ absurd (c.requires.earlier m.other less (record {
        other = c.args.a;
        in_range = c.requires.a_in;
        apart = λ same. m.apart (sym same);
        down = m.up;
        up = m.down;
      }))
      | inr later ↦ let below = m.in_range in absurd (c.loop-b.invariant m.other (omega arith) later m.down m.up)
    ]
  ],
)
