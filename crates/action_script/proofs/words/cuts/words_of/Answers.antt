use Rattle.std.proofs.Common.{◌++◌, ◌∷◌, [], map, sym, ap, ◌∙◌}
use Rattle.std.proofs.lemmas.List.{append_assoc}
use Rattle.action_script.specs.Words.CutLines.{filled_of, words_of}
use Rattle.action_script.proofs.words.cuts.words_of.Goals as goal

pub loop-rest-preserved : goal.loop-rest-preserved
loop-rest-preserved c =
    let words = map (λ w. w.now) c.loop-rest.words.items in
    let piece = filled_of (c.cut_piece.result.0.now ∷ []) in
    let more = words_of c.cut_piece.result.1.now in
    c.loop-rest.invariant ∙ ap (λ l. words ++ l) c.cut_piece.ensures.cut ∙ sym (append_assoc words piece more) ∙ ap (λ l. l ++ more)
    (sym c.in_ok-push_piece.ensures)
