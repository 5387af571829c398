use Rattle.std.proofs.Common.{◌≡◌, ◌<◌, ◌≤◌, ◌+◌, ◌^◌, ◌++◌, length, take, drop, get_or, true, arith, sym, ap, subst, ◌∙◌}
use Rattle.std.specs.Str.Parse.{AllDigits, digits_value}
use Rattle.std.proofs.lemmas.List.{drop_more, take-append-drop, take_all}
use Rattle.caa_base.specs.Written.Names.{is_digit}
use Rattle.journal_text.proofs.OnTexts.DigitLemmas.{digits_on, value_on, stray, too_large, unended}
use Rattle.journal_text.proofs.texts.tokens.digits_front.Goals as goal

pub returns-else-is_gap : goal.returns-else-is_gap
returns-else-is_gap c = λ n rest small gap same.
    let text = c.args.text.now in
    let i = c.loop-index.index in
    stray (take i text) (drop (i + 1) text) rest (get_or text i 0) n c.loop-index.invariant.digits
    (sym c.is_digit.ensures ∙ c.if-not-is_digit.true) (sym c.is_gap.ensures ∙ c.if-is_gap.false) small gap
    (ap (λ t. take i text ++ t) (sym (drop_more text i 0 (omega arith))) ∙ take-append-drop i text ∙ same)

pub returns-in_err-number : goal.returns-in_err-number
returns-in_err-number c = rw c.from_residual.ensures (λ n rest small gap same.
    let text = c.args.text.now in
    let i = c.loop-index.index in
    let low : i < length text = omega arith in
    let is : is_digit (get_or text i 0) ≡ true = sym c.is_digit.ensures ∙ c.if-not-is_digit.false in
    let value = value_on text i c.loop-index.number low is c.loop-index.invariant.value in
    let large : 2 ^ 64 ≤ digits_value 10 (take (i + 1) text) = omega (arith, value, c.in_err-number.ensures) in
    too_large (take (i + 1) text) (drop (i + 1) text) rest n (digits_on text i low is c.loop-index.invariant.digits) large small gap
    (take-append-drop (i + 1) text ∙ same))

pub loop-index-preserved : goal.loop-index-preserved
loop-index-preserved c =
    let text = c.args.text.now in
    let i = c.loop-index.index in
    let low : i < length text = omega arith in
    let is : is_digit (get_or text i 0) ≡ true = sym c.is_digit.ensures ∙ c.if-not-is_digit.false in
    record {
      digits = digits_on text i low is c.loop-index.invariant.digits;
      value = c.in_ok-number.ensures ∙ value_on text i c.loop-index.number low is c.loop-index.invariant.value;
    }

pub returns : goal.returns
returns c = λ n rest small gap same.
    let text = c.args.text.now in
    let all : c.loop-index.index ≡ length text = omega arith in
    let whole : take c.loop-index.index text ≡ text = take_all c.loop-index.index text (omega arith) in
    unended text rest n (subst (AllDigits 10) whole c.loop-index.invariant.digits) gap same
