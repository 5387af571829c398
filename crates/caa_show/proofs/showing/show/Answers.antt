use Rattle.journal_text.proofs.OnTexts.WellNamed.{well_named}
use Rattle.caa_show.proofs.showing.show.Goals as goal

pub show_plan-requires : goal.show_plan-requires
show_plan-requires c = well_named c.in-Accepted.plan c.has_own_names.ensures
