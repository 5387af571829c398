use Rattle.std.proofs.Common.{◌≡◌, sym, ◌∙◌, subst}
use Rattle.std.proofs.lemmas.Bool.{both_ways}
use Rattle.std.proofs.lemmas.List.{append_cancel_left}
use Rattle.journal_text.specs.inner.Tokens.{BeginsWithGap}
use Rattle.journal_text.proofs.texts.tokens.after_word.Goals as goal

pub returns-else-begins_with_gap : goal.returns-else-begins_with_gap
returns-else-begins_with_gap c = λ rest gap same.
    let left = c.in_ok-rest.rest.now in
    let is : left ≡ rest = append_cancel_left c.args.word.now left rest (sym c.in_ok-rest.ensures ∙ same) in
    both_ways c.begins_with_gap.result c.if-begins_with_gap.false (c.begins_with_gap.ensures.1 (subst BeginsWithGap (sym is) gap))
