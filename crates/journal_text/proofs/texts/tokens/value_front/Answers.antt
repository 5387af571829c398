use Rattle.std.proofs.Common.{ℕ, List, Bor}
use Rattle.journal_text.proofs.OnTexts.DigitLemmas.{minus-none, minus-zero}
use Rattle.journal_text.proofs.texts.tokens.value_front.Goals as goal

pub returns-in_err-number-in-Some : goal.returns-in_err-number-in-Some
returns-in_err-number-in-Some c =
    rw c.from_residual.ensures
    (minus-none (λ (r : Bor (List ℕ)). r.now) c.args.text.now c.in-Some.digits.now c.in-Some.ensures c.in_err-number-in-Some.ensures)

pub returns-then-number-eq0 : goal.returns-then-number-eq0
returns-then-number-eq0 c =
    minus-zero (λ (r : Bor (List ℕ)). r.now) c.args.text.now c.in-Some.digits.now c.in-Some.ensures c.in_ok-number-in-Some.number
    c.in_ok-number-in-Some.rest c.in_ok-number-in-Some.ensures c.if-number-eq0.true
