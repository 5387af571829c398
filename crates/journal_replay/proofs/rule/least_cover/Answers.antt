use Rattle.std.proofs.Common.{reverse}
use Rattle.std.proofs.lemmas.Bool.{not-true}
use Rattle.place_plan.specs.Plans.Places.{internal_of}
use Rattle.place_plan.specs.RulesOfJournals.Raising.{exceptions_raised}
use Rattle.journal_laws.proofs.PlayablePlan.{is_playable}
use Rattle.journal_replay.proofs.CoverSoFar.{cover_is, cover_is_least}
use Rattle.journal_replay.proofs.rule.least_cover.Goals as goal

pub unwrap-requires : goal.unwrap-requires
unwrap-requires g c =
    let plan = c.args.past.now.plan.now in
    cover_is (internal_of plan c.args.place) c.least_raised.result
    (exceptions_raised plan (reverse c.args.past.now.journal.now) c.args.place) (not-true _ c.requires.hot) c.least_raised.ensures

pub returns : goal.returns
returns g c =
    let plan = c.args.past.now.plan.now in
    cover_is_least plan (is_playable plan c.is_closed.ensures) c.args.place c.least_raised.result c.unwrap.result
    (exceptions_raised plan (reverse c.args.past.now.journal.now) c.args.place) c.unwrap.ensures c.least_raised.ensures
