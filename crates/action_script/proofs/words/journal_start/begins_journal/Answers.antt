use Rattle.std.proofs.Common.{◌≡◌, ◌&&◌, take, drop, true, bytes_eq, codes, sym, ap, ◌∙◌}
use Rattle.std.specs.List.{list_all}
use Rattle.std.proofs.lemmas.List.{take_rest}
use Rattle.action_script.specs.Words.CutLines.{is_blank}
use Rattle.action_script.proofs.words.journal_start.begins_journal.Goals as goal

pub returns-then-eq : goal.returns-then-eq
returns-then-eq c =
    let text = c.args.text.now in
    let same : true ≡ bytes_eq (take 7 text) (codes "journal") = sym c.if-eq.true ∙ c.eq.ensures
    ∙ ap (bytes_eq (take 7 text)) c.as_slice.ensures in
    c.are_blank.ensures ∙ ap (list_all is_blank) (take_rest text 7) ∙ ap (λ b. b && list_all is_blank (drop 7 text)) same
