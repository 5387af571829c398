use Rattle.std.proofs.Common.{reverse}
use Rattle.journal_replay.proofs.questions.is_left_in_silence.Goals as goal

pub returns : goal.returns
returns g c = c.ends_in_silence.ensures (reverse c.args.past.now.journal.now) c.outcome_of.ensures
