use Rattle.journal_pictures.proofs.TextLemmas.{two_more, seven_more}
use Rattle.journal_pictures.proofs.render.push_area.Goals as goal

pub returns : goal.returns
returns c =
    seven_more _ _ _ _ _ _ _ _ _ _ _ _ _ _ _
    c.in_ok-push_element.ensures
    c.in_ok-push_length.ensures
    c.in_ok-push_length-2.ensures
    c.in_ok-push_length-3.ensures
    c.in_ok-push_length-4.ensures
    (two_more _ _ _ _ _ c.in_ok-push.ensures.items c.in_ok-push_told.ensures)
    c.in_ok-extend_from_slice.ensures.items
