use Rattle.std.proofs.Common.{◌≡◌, drop, reverse}
use Rattle.caa_base.specs.Written.Lists.{first_not}
use Rattle.place_plan.specs.Plans.Places.{alternates_of}
use Rattle.place_plan.specs.RulesOfJournals.Whereabouts.{has_ended}
use Rattle.journal_replay.proofs.questions.first_lasting.Given as goal

abbrev pub invariant-loop-alternate : goal.invariant-loop-alternate
invariant-loop-alternate g l =
    first_not (has_ended (reverse l.past.journal.now)) (drop l.alternate-index l.alternate-items)
    ≡ first_not (has_ended (reverse l.past.journal.now)) (alternates_of l.past.plan.now l.place l.nest)
