use Rattle.journal_text.proofs.OnTexts.WellNamed.{well_named}
use Rattle.caa_show.proofs.interlocks.show_interlocks.Goals as goal

pub show_behind-requires : goal.show_behind-requires
show_behind-requires g c = well_named c.in-Accepted.plan c.has_own_names.ensures
