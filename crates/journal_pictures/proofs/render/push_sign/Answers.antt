use Rattle.std.proofs.Common.{◌≡◌, ◌∙◌, ◌++◌, ap, codes}
use Rattle.journal_pictures.specs.Pictures.{axis, middle, length_text}
use Rattle.journal_pictures.proofs.TextLemmas.{two_more, five_more}
use Rattle.journal_pictures.proofs.render.push_sign.Goals as goal

pub returns : goal.returns
returns c =
    let mark = c.args.mark.now in
    let before = c.push.new.self.items in
    let across : c.push_length.new.text.items ≡ before ++ length_text (codes "x") (axis c.args.axes.now mark.lane) =
    c.in_ok-push_length.ensures ∙ ap (λ n. before ++ length_text (codes "x") n) c.axis.ensures in
    let behind = c.push_length.new.text.items in
    let down : c.push_length-2.new.text.items ≡ behind ++ length_text (codes "y") (middle mark.row) =
    c.in_ok-push_length-2.ensures ∙ ap (λ n. behind ++ length_text (codes "y") n) c.middle.ensures in
    five_more _ _ _ _ _ _ _ _ _ _ _ c.in_ok-extend_from_slice.ensures.items
    c.in_ok-push_sign_name.ensures
    (two_more _ _ _ _ _ c.in_ok-push.ensures.items across)
    down
    c.in_ok-push-2.ensures.items
