use Rattle.std.proofs.Common.{◌≡◌, ◌<◌, [], ◌∷◌, ◌++◌, codes, sym, subst, ◌∙◌}
use Rattle.std.proofs.lemmas.List.{append_cancel_left}
use Rattle.place_plan.specs.Plans.Places.{action_at, graph_at, exception_name}
use Rattle.journal_text.specs.inner.Tokens.{BeginsWithGap}
use Rattle.journal_text.proofs.OnTexts.NamingLemmas.{exceptions-named}
use Rattle.journal_text.proofs.OnTexts.TokenLemmas.{rest_of, passed}
use Rattle.journal_text.proofs.OnTexts.FieldTokens.{verdict-lacks}
use Rattle.journal_text.proofs.texts.entry_at.verdict_of_line.Goals as goal

pub returns-in_err-after_byte : goal.returns-in_err-after_byte
returns-in_err-after_byte c = rw c.from_residual-in_err-after_byte.ensures (λ v more fits same.
    let plan = c.args.plan.now in
    let g = (action_at plan c.args.place).interface in
    let names = exceptions-named plan g c.requires in
    let text = c.in_ok-text.text.now in
    let after = c.in_ok-exception.text.now in
    let found = c.in_ok-exception.exception in
    let read =
    subst (λ i. (found < (graph_at plan i).count) × BeginsWithGap after × (text ≡ 32 ∷ exception_name plan i found ++ after))
    c.interface_number.ensures c.in_ok-exception.ensures in
    verdict-lacks plan c.args.place c.args.text.now c.in_default.ensures c.in_default-after_front.ensures
    (λ x rest low there.
    let name = exception_name plan g x in
    let left : text ≡ rest_of (name ∷ []) rest =
    append_cancel_left (codes " signal") text (rest_of (name ∷ []) rest) (sym c.in_ok-text.ensures ∙ there) in
    let one =
    passed (exception_name plan g found) name [] text after rest (names.whole found read.0) (names.whole x low) read.1 read.2 left in
    c.in_err-after_byte.ensures rest one.1)
    v more fits same)
