-- A call answers what it came to, once that is told.
use Rattle.std.proofs.Common.{◌≡◌, List, Option, sym, subst₂}
use Rattle.caa_base.specs.declared.written.entry.Entry.{Entry}
use Rattle.caa_base.specs.declared.outside.plant.Plant.{Ghosts}
use Rattle.caa_commands.specs.declared.command.Command.{Command}
use Rattle.caa_commands.specs.declared.finding.Finding.{Finding}
use Rattle.caa_commands.specs.declared.status.Status.{Status}
use Rattle.caa_commands.specs.OutsideUse.{SourceUse, SinkUse, plant_use, left_of, call_of}
use Rattle.caa_commands.specs.Calls.{CameTo, Tells, Answers}

pub answered : {P : Type 0} (ghosts : Ghosts P) (decided asked : Option Command) (source : SourceUse)
    (before found_with after : P) (journal kept : List Entry) (found : Finding) (sink : SinkUse) (answer : Status)
    → decided ≡ asked → after ≡ found_with
    → CameTo (call_of decided source (left_of (plant_use ghosts before found_with) journal)) found
    → Tells found journal kept sink answer
    → Answers (call_of asked source (left_of (plant_use ghosts before after) kept)) sink answer
answered ghosts decided asked source before found_with after journal kept found sink answer same plant came tells = record {
  finding = found;
  journal = journal;
  came = subst₂ (λ a p. CameTo (call_of a source (left_of (plant_use ghosts before p) journal)) found) same (sym plant) came;
  tells = tells;
}
