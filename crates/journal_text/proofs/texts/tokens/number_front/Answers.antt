use Rattle.std.proofs.Common.{◌≡◌, ◌<◌, ◌-◌, ◌^◌, ◌++◌, length, take, drop, decimal, arith, sym, ap, subst, ◌∙◌, length-drop}
use Rattle.std.proofs.lemmas.List.{take-append-drop, take_all}
use Rattle.journal_text.specs.inner.Tokens.{BeginsWithGap}
use Rattle.journal_text.proofs.OnTexts.DigitLemmas.{number-told, is_plain, spells}
use Rattle.journal_text.proofs.texts.tokens.number_front.Goals.{then-number-most-via-then-number-most, then-number-most-via-else-number-most+then-not-is_spelled}
use Rattle.journal_text.proofs.texts.tokens.number_front.Goals as goal

pub returns-then-number-most : goal.returns-then-number-most
returns-then-number-most c = λ n rest fits gap same.
    let text = c.args.text.now in
    let number = c.in_ok-number.number in
    let end = c.in_ok-number.end in
    let small : n < 2 ^ 64 = omega arith in
    let told = number-told text rest number end n c.in_ok-number.ensures small gap same in
    elim c.then-number-most.branch [
      | then-number-most-via-then-number-most w ↦ omega (arith, told.1, w.if-number-most.true)
      | then-number-most-via-else-number-most+then-not-is_spelled w ↦
          is_plain text rest number end n c.in_ok-number.ensures small gap same (w.is_spelled.ensures.not w.if-not-is_spelled.true)
    ]

pub returns : goal.returns
returns c =
    let text = c.args.text.now in
    let number = c.in_ok-number.number in
    let end = c.in_ok-number.end in
    let are = c.in_ok-number.ensures in
    let p = c.is_spelled.ensures in
    let some = p.some c.if-not-is_spelled.false in
    let whole : take (length text - end) (drop end text) ≡ drop end text = take_all _ (drop end text) (omega (arith, length-drop end text)) in
    let front : take end text ≡ decimal number = spells text number end are (omega arith) some (p.plain c.if-not-is_spelled.false) in (
      c.if-number-most.false,
      subst BeginsWithGap (sym whole) are.gap,
      sym (take-append-drop end text) ∙ ap (λ w. w ++ drop end text) front ∙ ap (λ t. decimal number ++ t) (sym whole),
    )
