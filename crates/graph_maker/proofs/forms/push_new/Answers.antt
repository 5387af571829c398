use Rattle.std.proofs.Common.{vec_len, ◌≡◌, length, ◌++◌, ◌∷◌, [], sym, ap, ◌∙◌}
use Rattle.action_script.specs.Words.NumberedNames.{number_in}
use Rattle.graph_maker.proofs.Distinct.{new_name, old_name}
use Rattle.graph_maker.proofs.forms.push_new.Goals as goal

pub returns-in_ok-push : goal.returns-in_ok-push
returns-in_ok-push c =
    let names = c.args.names.now.items in
    let word = c.args.word.now in
    let sized : vec_len c.args.names.now ≡ length names = c.args.names.now.ok.0 in
    c.in_ok-push.ensures.items
    ∙ ap (λ w. names ++ w ∷ []) c.in_ok-from_bytes.ensures
    ∙ new_name names word
    (ap (λ l. number_in l word) (sym c.deref.ensures.value) ∙ sym c.number_in.ensures ∙ c.if-number_in-len.true ∙ c.len.ensures ∙ sized)

pub returns-else-number_in-len : goal.returns-else-number_in-len
returns-else-number_in-len c =
    let names = c.args.names.now.items in
    let word = c.args.word.now in
    let sized : vec_len c.args.names.now ≡ length names = c.args.names.now.ok.0 in
    old_name names word
    (λ same. c.if-number_in-len.false (c.number_in.ensures ∙ ap (λ l. number_in l word) c.deref.ensures.value ∙ same ∙ sym sized
    ∙ sym c.len.ensures))
