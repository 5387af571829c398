use Rattle.shared_views.proofs.Readings.{was_read, still_read}
use Rattle.shared_views.proofs.observed.reading_stands.Goals as goal

pub returns : goal.returns
returns c = still_read _ _ _ _ _ c.requires.begins (was_read _ _ _ _ c.requires.read)
