use Rattle.std.proofs.Common.{[], ◌∷◌, refl}
use Rattle.std.specs.Fmt.{signed_decimal}
use Rattle.journal_text.specs.Texts.Text.{object_name}
use Rattle.journal_text.proofs.OnTexts.DigitLemmas.{value-kept}
use Rattle.journal_text.proofs.OnTexts.WordLemmas.{begins-line, whole-signed}
use Rattle.journal_text.proofs.OnTexts.NamingLemmas.{objects-named}
use Rattle.journal_text.proofs.OnTexts.TokenLemmas.{rest_of, first-there, passed, joined}
use Rattle.journal_text.proofs.texts.entry_at.with_object.Goals as goal

pub returns-in_err-arg : goal.returns-in_err-arg
returns-in_err-arg c = rw c.from_residual.ensures (λ e more fits same.
    let name = object_name c.args.plan.now e.arg in
    let value = signed_decimal e.value in
    c.in_err-arg.ensures e.arg (rest_of (value ∷ []) more) fits.1.0.arg (begins-line (value ∷ []) more) (first-there name (value ∷ []) more c.args.text.now same))

pub returns-in_err-value : goal.returns-in_err-value
returns-in_err-value c = rw c.from_residual-in_err-value.ensures (λ e more fits same.
    let plan = c.args.plan.now in
    let names = objects-named plan c.requires.named in
    let value = signed_decimal e.value in
    let read = c.in_ok-arg.ensures in
    let one =
    passed (object_name plan c.in_ok-arg.arg) (object_name plan e.arg) (value ∷ []) c.args.text.now c.in_ok-arg.text.now more
    (names.whole c.in_ok-arg.arg read.0) (names.whole e.arg fits.1.0.arg) read.1 read.2 same in
    c.in_err-value.ensures e.value (rest_of [] more) fits.1.0.value (begins-line [] more) (first-there value [] more c.in_ok-arg.text.now one.1))

pub returns-in_err-text : goal.returns-in_err-text
returns-in_err-text c = rw c.from_residual-in_err-text.ensures (λ e more fits same.
    let plan = c.args.plan.now in
    let names = objects-named plan c.requires.named in
    let value = signed_decimal e.value in
    let read = c.in_ok-arg.ensures in
    let later = c.in_ok-value.ensures in
    let one =
    passed (object_name plan c.in_ok-arg.arg) (object_name plan e.arg) (value ∷ []) c.args.text.now c.in_ok-arg.text.now more
    (names.whole c.in_ok-arg.arg read.0) (names.whole e.arg fits.1.0.arg) read.1 read.2 same in
    let two =
    passed (signed_decimal c.in_ok-value.value) value [] c.in_ok-arg.text.now c.in_ok-value.text.now more
    (whole-signed c.in_ok-value.value later.0) (whole-signed e.value fits.1.0.value) later.1 later.2 one.1 in
    c.in_err-text.ensures more two.1)

pub returns : goal.returns
returns c =
    let read = c.in_ok-arg.ensures in
    let later = c.in_ok-value.ensures in
    let name = object_name c.args.plan.now c.in_ok-arg.arg in
    let value = signed_decimal c.in_ok-value.value in
    let end = c.in_ok-text.text.now in
    rw (value-kept c.in_ok-value.value later.0) (
      (
        record { kind = refl; place = refl; by = refl },
        (record { arg = read.0; value = later.0 }, c.requires.plain.mark),
      ),
      joined name (value ∷ []) c.args.text.now c.in_ok-arg.text.now end read.2
          (joined value [] c.in_ok-arg.text.now c.in_ok-value.text.now end later.2 c.in_ok-text.ensures),
    )
