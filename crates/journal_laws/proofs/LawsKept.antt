-- All laws of a journal.
use Rattle.place_plan.specs.Plans.PlanValue.{Plan}
use Rattle.journal_laws.specs.Laws.{Holds, KeepsLaws}
use Rattle.journal_laws.proofs.Playable.{IsPlayable}
use Rattle.journal_laws.proofs.CoreKept.{core}
use Rattle.journal_laws.proofs.Stop.{stop_law}
use Rattle.journal_laws.proofs.Still.{still_law}
use Rattle.journal_laws.proofs.Resolution.{resolution_law}
use Rattle.journal_laws.proofs.Exit.{exits}
use Rattle.journal_laws.proofs.Outcome.{outcomes}
use Rattle.journal_laws.proofs.Effects.{effects}
use Rattle.journal_laws.proofs.Reaction.{reaction_law}
use Rattle.journal_laws.proofs.InnerFirst.{inner_first}
use Rattle.journal_laws.proofs.Isolation.{isolation}

pub keeps_laws : (plan : Plan) → IsPlayable plan → Holds KeepsLaws plan
keeps_laws plan playable past legal = record {
  stops = stop_law plan past legal;
  still = still_law plan playable (core plan playable) past legal;
  resolution = resolution_law plan playable (core plan playable) past legal;
  exits = exits plan playable (core plan playable) past legal;
  outcomes = outcomes plan past legal;
  effects = effects plan playable past legal;
  reacts = reaction_law plan playable (core plan playable) past legal;
  inner_first = inner_first plan playable.tree past legal;
  isolation = isolation plan playable.tree past legal;
}
