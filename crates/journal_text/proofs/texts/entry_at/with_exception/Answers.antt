use Rattle.std.proofs.Common.{[], refl}
use Rattle.place_plan.specs.Plans.Places.{exception_name}
use Rattle.journal_text.proofs.OnTexts.DigitLemmas.{nothing-kept}
use Rattle.journal_text.proofs.OnTexts.WordLemmas.{begins-line}
use Rattle.journal_text.proofs.OnTexts.NamingLemmas.{exceptions-named}
use Rattle.journal_text.proofs.OnTexts.TokenLemmas.{rest_of, first-there, passed, joined}
use Rattle.journal_text.proofs.texts.entry_at.with_exception.Goals as goal

pub returns-in_err-arg : goal.returns-in_err-arg
returns-in_err-arg c = rw c.from_residual.ensures (λ e more fits same.
    let name = exception_name c.args.plan.now c.args.graph e.arg in
    c.in_err-arg.ensures e.arg (rest_of [] more) fits.1.arg (begins-line [] more) (first-there name [] more c.args.text.now same))

pub returns-in_err-text : goal.returns-in_err-text
returns-in_err-text c = rw c.from_residual-in_err-text.ensures (λ e more fits same.
    let plan = c.args.plan.now in
    let g = c.args.graph in
    let names = exceptions-named plan g c.requires.named in
    let read = c.in_ok-arg.ensures in
    let one =
    passed (exception_name plan g c.in_ok-arg.arg) (exception_name plan g e.arg) [] c.args.text.now c.in_ok-arg.text.now more
    (names.whole c.in_ok-arg.arg read.0) (names.whole e.arg fits.1.arg) read.1 read.2 same in
    c.in_err-text.ensures more one.1)

pub returns : goal.returns
returns c =
    let read = c.in_ok-arg.ensures in
    let plain = c.requires.plain in (
      (
        record { kind = refl; place = refl; by = refl },
        record { arg = read.0; mark = plain.mark; value = nothing-kept c.args.maker.value plain.value },
      ),
      joined (exception_name c.args.plan.now c.args.graph c.in_ok-arg.arg) [] c.args.text.now c.in_ok-arg.text.now
          c.in_ok-text.text.now read.2 c.in_ok-text.ensures,
    )
