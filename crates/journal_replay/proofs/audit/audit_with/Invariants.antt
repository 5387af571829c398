use Rattle.std.proofs.Common.{reverse, take}
use Rattle.place_plan.specs.RulesOfJournals.Journals.{IsLegal}
use Rattle.journal_replay.proofs.audit.audit_with.Given as goal

abbrev pub invariant-loop-index : goal.invariant-loop-index
invariant-loop-index g l =
    record {
      legal : IsLegal l.plan (take l.index l.entries);
      stands : g.R.StandsFor.stand_for l.records l.plan (reverse (take l.index l.entries));
    }
