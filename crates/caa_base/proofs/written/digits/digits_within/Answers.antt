use Rattle.std.proofs.Common.{drop, sym, arith}
use Rattle.caa_base.proofs.ReadDigits.{at_most-digits_after}
use Rattle.caa_base.proofs.written.digits.digits_within.Goals as goal

pub returns-then-number-most-clause-value : goal.returns-then-number-most-clause-value
returns-then-number-most-clause-value c =
    rw (← c.loop-digit.invariant)
    (sym (at_most-digits_after c.args.most c.loop-digit.number (drop c.loop-digit.digit-index c.args.digits.now)
    (omega arith)))
