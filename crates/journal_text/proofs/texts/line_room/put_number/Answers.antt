use Rattle.std.proofs.Common.{arith, append_assoc}
use Rattle.std.proofs.lemmas.Fmt.{decimal_digit}
use Rattle.journal_text.proofs.texts.line_room.put_number.Goals as goal

pub returns-then-number-lt10-clause-at : goal.returns-then-number-lt10-clause-at
returns-then-number-lt10-clause-at c = rw (decimal_digit c.args.number c.if-number-lt10.true) (omega arith)

pub returns-then-number-lt10-clause-written : goal.returns-then-number-lt10-clause-written
returns-then-number-lt10-clause-written c = rw (decimal_digit c.args.number c.if-number-lt10.true) (grind (arith, append_assoc))
