use Rattle.journal_text.proofs.OnTexts.WellNamed.{well_named}
use Rattle.caa_show.proofs.paging.show_page.Goals as goal

pub show_scene-requires : goal.show_scene-requires
show_scene-requires c = well_named c.in-Accepted.plan c.has_own_names.ensures
