use Rattle.std.proofs.Common.{◌≡◌, drop}
use Rattle.caa_base.specs.Written.Lines.{digits_after}
use Rattle.caa_base.proofs.written.digits.digits_within.Given as goal

abbrev pub invariant-loop-digit : goal.invariant-loop-digit
invariant-loop-digit l = digits_after l.number (drop l.digit-index l.digits) ≡ digits_after 0 l.digits
