use Rattle.journal_pictures.proofs.TextLemmas.{two_more, four_more}
use Rattle.journal_pictures.proofs.render.push_box.Goals as goal

pub returns : goal.returns
returns c =
    four_more _ _ _ _ _ _ _ _ _
    c.in_ok-extend_from_slice.ensures.items
    c.in_ok-push_decimal.ensures
    (two_more _ _ _ _ _ c.in_ok-push.ensures.items c.in_ok-push_decimal-2.ensures)
    c.in_ok-extend_from_slice-2.ensures.items
