use Rattle.std.proofs.Common.{add-one, refl, ◌∙◌}
use Rattle.journal_text.proofs.looks.play_values.committed_values.Goals as goal

pub look_back-requires-clause-start : goal.look_back-requires-clause-start
look_back-requires-clause-start c = c.deref_mut.ensures.value ∙ c.in_ok-values.ensures ∙ rw add-one refl
