use Rattle.std.proofs.Common.{[], ◌∷◌, ◌++◌, refl, sym, ap, ◌∙◌, arith}
use Rattle.caa_base.specs.Written.Lines.{spaced}
use Rattle.place_plan.specs.Plans.Places.{graph_at, exception_name}
use Rattle.journal_text.proofs.OnTexts.DigitLemmas.{nothing-kept}
use Rattle.journal_text.proofs.OnTexts.WordLemmas.{begins-line}
use Rattle.journal_text.proofs.OnTexts.NamingLemmas.{exceptions-named}
use Rattle.journal_text.proofs.OnTexts.TokenLemmas.{rest_of, first-there, passed, joined}
use Rattle.journal_text.proofs.OnTexts.FieldTokens.{unnamed, unnamed-fits, named-lacks}
use Rattle.journal_text.proofs.texts.entry_at.with_name.Goals as goal

pub returns-in-Some : goal.returns-in-Some
returns-in-Some c =
    let plan = c.args.plan.now in
    let plain = c.requires.plain in (
      (record { kind = refl; place = refl; by = refl }, unnamed-fits (graph_at plan c.args.graph) c.args.maker plain),
      c.in-Some.ensures ∙ ap (λ ws. spaced ws ++ 10 ∷ c.in-Some.text.now) (sym (unnamed plan c.args.graph c.args.maker plain.mark)),
    )

pub returns-in_err-arg : goal.returns-in_err-arg
returns-in_err-arg c = rw c.from_residual.ensures (λ e more fits same.
    let plan = c.args.plan.now in
    let g = c.args.graph in
    let text = c.args.text.now in
    named-lacks plan g text c.in_default.ensures
    (λ x rest low there.
    c.in_err-arg.ensures x (rest_of [] rest) low (begins-line [] rest) (first-there (exception_name plan g x) [] rest text there))
    e e.mark more fits.1 refl same)

pub returns-in_err-text : goal.returns-in_err-text
returns-in_err-text c = rw c.from_residual-in_err-text.ensures (λ e more fits same.
    let plan = c.args.plan.now in
    let g = c.args.graph in
    let text = c.args.text.now in
    let names = exceptions-named plan g c.requires.named in
    let read = c.in_ok-arg.ensures in
    named-lacks plan g text c.in_default.ensures
    (λ x rest low there.
    let one =
    passed (exception_name plan g c.in_ok-arg.arg) (exception_name plan g x) [] text c.in_ok-arg.text.now rest
    (names.whole c.in_ok-arg.arg read.0) (names.whole x low) read.1 read.2 there in
    c.in_err-text.ensures rest one.1)
    e e.mark more fits.1 refl same)

pub returns : goal.returns
returns c =
    let read = c.in_ok-arg.ensures in
    let plain = c.requires.plain in (
      (
        record { kind = refl; place = refl; by = refl },
        record {
          mark = omega arith;
          named = λ _. read.0;
          bare = λ other. absurd (other refl);
          value = nothing-kept c.args.maker.value plain.value;
        },
      ),
      joined (exception_name c.args.plan.now c.args.graph c.in_ok-arg.arg) [] c.args.text.now c.in_ok-arg.text.now
          c.in_ok-text.text.now read.2 c.in_ok-text.ensures,
    )
