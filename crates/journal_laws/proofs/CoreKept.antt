-- Every legal past of a playable plan keeps the core, from which all laws are drawn.
use Rattle.place_plan.specs.Plans.PlanValue.{Plan}
use Rattle.journal_laws.specs.Laws.{Holds}
use Rattle.journal_laws.proofs.Playable.{IsPlayable}
use Rattle.journal_laws.proofs.Core.{Says, Core}
use Rattle.journal_laws.proofs.Raised.{raises}
use Rattle.journal_laws.proofs.Said.{said_handler, said_other, said_undoing, said_ended}
use Rattle.journal_laws.proofs.Visited.{visits, done}
use Rattle.journal_laws.proofs.Tried.{tries}

module _ (plan : Plan) (playable : IsPlayable plan) where
  says : Holds Says plan
  says past legal = record {
    handler = said_handler plan playable.tree past legal;
    other = said_other plan playable.tree past legal;
    done = done plan playable.tree past legal;
    undoing = said_undoing plan playable.tree past legal;
    ended = said_ended plan playable.tree past legal;
  }

  pub core : Holds Core plan
  core past legal =
      record {
        raises = raises plan playable.tree past legal;
        says = says past legal;
        visits = visits plan playable past legal;
        tries = tries plan past legal;
      }
