use Rattle.std.proofs.Common.{inr, arith, ◌∙◌, refl}
use Rattle.line_plant.proofs.ComingNext.{another_came, not_after_none}
use Rattle.line_plant.proofs.hearing.takes.Goals as goal

pub returns-in_default-clause-other : goal.returns-in_default-clause-other
returns-in_default-clause-other g c false =
    not_after_none _ _ _ _ _ c.args.wanted.now c.loop-byte.byte-index (omega (arith, c.loop-byte-test.true)) c.loop-byte.invariant.taken
    c.loop-byte.invariant.unfailed (c.in_default.ensures.none refl)

pub returns-then-next-byte-clause-other : goal.returns-then-next-byte-clause-other
returns-then-next-byte-clause-other g c false =
    inr (
      c.in-Some.ensures.unfailed ∙ c.loop-byte.invariant.unfailed,
      another_came _ _ _ c.args.wanted.now c.loop-byte.byte-index _
          (omega (arith, c.loop-byte-test.true)) c.loop-byte.invariant.taken c.in-Some.ensures.byte c.if-next-byte.true,
    )
