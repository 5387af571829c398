use Rattle.std.proofs.Common.{[], ◌∷◌, decimal, arith, refl}
use Rattle.std.specs.Fmt.{signed_decimal}
use Rattle.journal_text.proofs.OnTexts.DigitLemmas.{value-kept}
use Rattle.journal_text.proofs.OnTexts.WordLemmas.{begins-line, whole-decimal, whole-signed}
use Rattle.journal_text.proofs.OnTexts.TokenLemmas.{rest_of, first-there, passed, joined}
use Rattle.journal_text.proofs.texts.entry_at.with_work.Goals as goal

pub returns-in_err-rounds : goal.returns-in_err-rounds
returns-in_err-rounds c = rw c.from_residual.ensures (λ e more fits same.
    let value = signed_decimal e.value in
    c.in_err-rounds.ensures e.arg (rest_of (value ∷ []) more) (omega (arith, fits.1.0, c.from.ensures)) (begins-line (value ∷ []) more)
    (first-there (decimal e.arg) (value ∷ []) more c.args.text.now same))

pub returns-in_err-value : goal.returns-in_err-value
returns-in_err-value c = rw c.from_residual-in_err-value.ensures (λ e more fits same.
    let value = signed_decimal e.value in
    let read = c.in_ok-rounds.ensures in
    let one =
    passed (decimal c.in_ok-rounds.rounds) (decimal e.arg) (value ∷ []) c.args.text.now c.in_ok-rounds.text.now more
    (whole-decimal c.in_ok-rounds.rounds (omega (arith, read.0, c.from.ensures))) (whole-decimal e.arg (omega (arith, fits.1.0))) read.1 read.2 same in
    c.in_err-value.ensures e.value (rest_of [] more) fits.1.2 (begins-line [] more) (first-there value [] more c.in_ok-rounds.text.now one.1))

pub returns-in_err-text : goal.returns-in_err-text
returns-in_err-text c = rw c.from_residual-in_err-text.ensures (λ e more fits same.
    let value = signed_decimal e.value in
    let read = c.in_ok-rounds.ensures in
    let later = c.in_ok-value.ensures in
    let one =
    passed (decimal c.in_ok-rounds.rounds) (decimal e.arg) (value ∷ []) c.args.text.now c.in_ok-rounds.text.now more
    (whole-decimal c.in_ok-rounds.rounds (omega (arith, read.0, c.from.ensures))) (whole-decimal e.arg (omega (arith, fits.1.0))) read.1 read.2 same in
    let two =
    passed (signed_decimal c.in_ok-value.value) value [] c.in_ok-rounds.text.now c.in_ok-value.text.now more
    (whole-signed c.in_ok-value.value later.0) (whole-signed e.value fits.1.2) later.1 later.2 one.1 in
    c.in_err-text.ensures more two.1)

pub returns : goal.returns
returns c =
    let read = c.in_ok-rounds.ensures in
    let later = c.in_ok-value.ensures in
    let rounds = decimal c.in_ok-rounds.rounds in
    let value = signed_decimal c.in_ok-value.value in
    let end = c.in_ok-text.text.now in
    rw (value-kept c.in_ok-value.value later.0) (
      (record { kind = refl; place = refl; by = refl }, (omega (arith, read.0, c.from.ensures), c.requires.mark, later.0)),
      joined rounds (value ∷ []) c.args.text.now c.in_ok-rounds.text.now end read.2
          (joined value [] c.in_ok-rounds.text.now c.in_ok-value.text.now end later.2 c.in_ok-text.ensures),
    )
