-- How the draft comes to stand.
use Rattle.std.specs.Prelude.{List}
use Rattle.place_plan.specs.declared.drafts.draft.Draft.{Draft}
use Rattle.place_plan.specs.declared.drafts.draft_rows.GraphRow.{GraphRow}
use Rattle.script_checker.specs.declared.declared.Declared.{Declared}

-- the draft has the parts that are declared, and these rows of graphs
abbrev pub parted : Declared → List GraphRow → Draft
parted d rows = record {
  participants = d.participant_rows;
  objects = d.object_rows;
  graphs = rows;
  actions = d.actions;
  plays = d.plays;
  drills = d.drills;
  watches = d.watches;
}
